-- Ranges that can't be placed.
use Rattle.std.proofs.Common.{◌≡◌, ℕ, zero, suc, ◌+◌, ◌<◌, ◌≤◌, Bool, true, false, cond, List, [], ◌∷◌, ◌++◌, Option, None, Some, Contains, length, take, map, get_or, slice_get, option_and_then, refl, ap, sym, ◌∙◌, subst, arith, append-nil, is_some, true≢false}
use Rattle.std.specs.List.{flat_map, range_with_len}
use Rattle.std.specs.Option.{option_map_or, option_or}
use Rattle.std.proofs.lemmas.Grind.{flat_map-append}
use Rattle.std.proofs.lemmas.List.{take_all, take_more}
use Rattle.std.proofs.lemmas.List.FromFn.{length-map-range_with_len, get_or-map-range_with_len}
use Rattle.std.proofs.lemmas.Option.{none-some}
use Rattle.mr_base.specs.declared.nodes.NodeInfo.{NodeInfo}
use Rattle.region_sql.specs.declared.region_statements.RegionStatement.{RegionStatement}
use Rattle.region_sql.specs.declared.region_statements.RegionStatement.TheVariants.{CreateDatabase, Use, SetPrimary, AddRegion, DropRegion, Survive, Placement, CreateTable, SetLocality}
use Rattle.descriptors.specs.declared.database.Database.{Database}
use Rattle.descriptors.specs.declared.table.Table.{Table}
use Rattle.descriptors.specs.Changes.{after}
use Rattle.descriptors.specs.Contents.{Contents, current_database, database_named}
use Rattle.descriptors.specs.Refusals.{has_regions, of_database}
use Rattle.zone_report.specs.Nodes.{Serve}
use Rattle.zone_report.specs.Statements.{IsPlaceable}
use Rattle.zone_report.specs.declared.refused.SqlRefusal.{SqlRefusal}
use Rattle.region_sql.specs.declared.region_statements.Locality.{Locality}
use Rattle.zone_compile.specs.Configuration.{configuration}
use Rattle.zone_report.specs.Ranges.{Range, partitions, place_of, range_at, ranges, ranges_in, ranges_of_table}
use Rattle.zone_report.specs.Refusals.{first_lack, lack_in}

-- ---- the first lack

or_assoc : (a b c : Option SqlRefusal) → option_or (option_or a b) c ≡ option_or a (option_or b c)
or_assoc None b c = refl
or_assoc (Some x) b c = refl

or_none : (a : Option SqlRefusal) → option_or a None ≡ a
or_none None = refl
or_none (Some x) = refl

pub lack-append : (nodes : List NodeInfo) (xs ys : List Range) → first_lack nodes (xs ++ ys) ≡ option_or (first_lack nodes xs) (first_lack nodes ys)
lack-append nodes [] ys = refl
lack-append nodes (x ∷ xs) ys = ap (option_or (lack_in nodes x)) (lack-append nodes xs ys) ∙ sym (or_assoc (lack_in nodes x) (first_lack nodes xs) (first_lack nodes ys))

or_both : (a b : Option SqlRefusal) → option_or a b ≡ None → (a ≡ None) × (b ≡ None)
or_both None b h = (refl, h)
or_both (Some x) b h = absurd (none-some x (sym h))

pub one_more : (nodes : List NodeInfo) (xs : List Range) (x : Range) → first_lack nodes xs ≡ None → lack_in nodes x ≡ None → first_lack nodes (xs ++ x ∷ []) ≡ None
one_more nodes xs x h g = lack-append nodes xs (x ∷ []) ∙ ap (λ o. option_or o (option_or (lack_in nodes x) None)) h ∙ ap (λ o. option_or o None) g

-- The range at a place, where none before it lacks anything.
pub lack_found : (nodes : List NodeInfo) (xs : List Range) (i : ℕ) (x : Range) (lack : SqlRefusal) → i < length xs → first_lack nodes (take i xs) ≡ None → get_or xs i x ≡ x → lack_in nodes x ≡ Some lack → first_lack nodes xs ≡ Some lack
lack_found nodes [] i x lack lt h at g = absurd (omega arith)
lack_found nodes (y ∷ xs) zero x lack lt h at g = ap (λ r. option_or (lack_in nodes r) (first_lack nodes xs)) at ∙ ap (λ o. option_or o (first_lack nodes xs)) g
lack_found nodes (y ∷ xs) (suc i) x lack lt h at g =
    let both = or_both (lack_in nodes y) (first_lack nodes (take i xs)) h in
    ap (λ o. option_or o (first_lack nodes xs)) both.0 ∙ lack_found nodes xs i x lack (omega arith) both.1 at g

-- A range of which none lacks anything.
pub lacks_none : (nodes : List NodeInfo) (xs : List Range) (x : Range) (i : ℕ) → first_lack nodes xs ≡ None → i < length xs → get_or xs i x ≡ x → lack_in nodes x ≡ None
lacks_none nodes [] x i h lt at = absurd (omega arith)
lacks_none nodes (y ∷ xs) x zero h lt at = ap (lack_in nodes) (sym at) ∙ (or_both (lack_in nodes y) (first_lack nodes xs) h).0
lacks_none nodes (y ∷ xs) x (suc i) h lt at = lacks_none nodes xs x i (or_both (lack_in nodes y) (first_lack nodes xs) h).1 (omega arith) at

-- ---- the ranges of a table

none_there : (o : Option SqlRefusal) → is_some o ≡ false → o ≡ None
none_there None h = refl
none_there (Some x) h = absurd (true≢false h)

some_there : (o : Option SqlRefusal) → is_some o ≡ true → (x : SqlRefusal) × (o ≡ Some x)
some_there None h = absurd (true≢false (sym h))
some_there (Some x) h = (x, refl)

pub how_many : (d : Database) (t : Table) → length (ranges_in d t) ≡ partitions d t.locality
how_many d t = length-map-range_with_len (range_at d t) 0 (partitions d t.locality)

pub here : (d : Database) (t : Table) (k : ℕ) (other : Range) → k < partitions d t.locality → get_or (ranges_in d t) k other ≡ range_at d t k
here d t k other lt = get_or-map-range_with_len (range_at d t) 0 (partitions d t.locality) k k other lt (omega arith)

pub lack_at_place : (nodes : List NodeInfo) (d : Database) (t : Table) (k : ℕ) (lack : Option SqlRefusal) {n : ℕ} → is_some lack ≡ true → k < n → n ≡ partitions d t.locality → first_lack nodes (take k (ranges_in d t)) ≡ None → lack ≡ lack_in nodes (range_at d t k) → lack ≡ first_lack nodes (ranges_in d t)
lack_at_place nodes d t k lack some lt size before is =
    let there = some_there lack some in
    there.1 ∙ sym (lack_found nodes (ranges_in d t) k (range_at d t k) there.0 (omega (arith, lt, size, how_many d t)) before (here d t k (range_at d t k) (omega (arith, lt, size))) (sym is ∙ there.1))

pub placed_more : (nodes : List NodeInfo) (d : Database) (t : Table) (k : ℕ) (lack : Option SqlRefusal) {n : ℕ} → is_some lack ≡ false → k < n → n ≡ partitions d t.locality → first_lack nodes (take k (ranges_in d t)) ≡ None → lack ≡ lack_in nodes (range_at d t k) → first_lack nodes (take (k + 1) (ranges_in d t)) ≡ None
placed_more nodes d t k lack none lt size before is =
    ap (first_lack nodes) (take_more (ranges_in d t) k (range_at d t k) (omega (arith, lt, size, how_many d t)) ∙ ap (λ r. take k (ranges_in d t) ++ r ∷ []) (here d t k (range_at d t k) (omega (arith, lt, size))))
    ∙ one_more nodes (take k (ranges_in d t)) (range_at d t k) before (sym is ∙ none_there lack none)

pub all_placed : (nodes : List NodeInfo) (d : Database) (t : Table) (k n : ℕ) → n ≤ k → n ≡ partitions d t.locality → first_lack nodes (take k (ranges_in d t)) ≡ None → None ≡ first_lack nodes (ranges_in d t)
all_placed nodes d t k n past size before = sym (ap (first_lack nodes) (sym (take_all k (ranges_in d t) (omega (arith, past, size, how_many d t)))) ∙ before)

-- ---- tables

pub table_lacks_none : (nodes : List NodeInfo) (f : Table → List Range) (ts : List Table) → first_lack nodes (flat_map f ts) ≡ None → (t : Table) → Contains ts t → first_lack nodes (f t) ≡ None
table_lacks_none nodes f [] h t c = absurd (omega (arith, c.1))
table_lacks_none nodes f (s ∷ ts) h t (zero, lt, at) = ap (λ x. first_lack nodes (f x)) (sym at) ∙ (or_both (first_lack nodes (f s)) (first_lack nodes (flat_map f ts)) (sym (lack-append nodes (f s) (flat_map f ts)) ∙ h)).0
table_lacks_none nodes f (s ∷ ts) h t (suc i, lt, at) = table_lacks_none nodes f ts (or_both (first_lack nodes (f s)) (first_lack nodes (flat_map f ts)) (sym (lack-append nodes (f s) (flat_map f ts)) ∙ h)).1 t (i, omega (arith, lt), at)

flat_more : (f : Table → List Range) (ts : List Table) (i : ℕ) (t : Table) → i < length ts → get_or ts i t ≡ t → flat_map f (take (i + 1) ts) ≡ flat_map f (take i ts) ++ (f t ++ [])
flat_more f ts i t lt at = ap (flat_map f) (take_more ts i t lt) ∙ flat_map-append f (take i ts) (get_or ts i t ∷ []) ∙ ap (λ x. flat_map f (take i ts) ++ (f x ++ [])) at

pub flat_step : (f : Table → List Range) (ts : List Table) (i : ℕ) (t : Table) → i < length ts → get_or ts i t ≡ t → flat_map f (take (i + 1) ts) ≡ flat_map f (take i ts) ++ f t
flat_step f ts i t lt at = flat_more f ts i t lt at ∙ ap (λ l. flat_map f (take i ts) ++ l) (append-nil (f t))

pub one_more_table : (nodes : List NodeInfo) (f : Table → List Range) (ts : List Table) (i : ℕ) (t : Table) → i < length ts → get_or ts i t ≡ t → first_lack nodes (flat_map f (take i ts)) ≡ None → first_lack nodes (f t) ≡ None → first_lack nodes (flat_map f (take (i + 1) ts)) ≡ None
one_more_table nodes f ts i t lt at h g =
    ap (first_lack nodes) (flat_more f ts i t lt at) ∙ lack-append nodes (flat_map f (take i ts)) (f t ++ [])
    ∙ ap (λ o. option_or o (first_lack nodes (f t ++ []))) h ∙ lack-append nodes (f t) [] ∙ ap (λ o. option_or o None) g

pub table_found : (nodes : List NodeInfo) (f : Table → List Range) (ts : List Table) (i : ℕ) (t : Table) (lack : SqlRefusal) → i < length ts → get_or ts i t ≡ t → first_lack nodes (flat_map f (take i ts)) ≡ None → first_lack nodes (f t) ≡ Some lack → first_lack nodes (flat_map f ts) ≡ Some lack
table_found nodes f [] i t lack lt at h g = absurd (omega arith)
table_found nodes f (s ∷ ts) zero t lack lt at h g =
    lack-append nodes (f s) (flat_map f ts) ∙ ap (λ x. option_or (first_lack nodes (f x)) (first_lack nodes (flat_map f ts))) at ∙ ap (λ o. option_or o (first_lack nodes (flat_map f ts))) g
table_found nodes f (s ∷ ts) (suc i) t lack lt at h g =
    let both = or_both (first_lack nodes (f s)) (first_lack nodes (flat_map f (take i ts))) (sym (lack-append nodes (f s) (flat_map f (take i ts))) ∙ h) in
    lack-append nodes (f s) (flat_map f ts) ∙ ap (λ o. option_or o (first_lack nodes (flat_map f ts))) both.0 ∙ table_found nodes f ts i t lack (omega arith) at both.1 g

pub lack_at_table : (nodes : List NodeInfo) (f : Table → List Range) (ts : List Table) (i : ℕ) (t : Table) (lack : Option SqlRefusal) → is_some lack ≡ true → i < length ts → t ≡ get_or ts i t → first_lack nodes (flat_map f (take i ts)) ≡ None → lack ≡ first_lack nodes (f t) → lack ≡ first_lack nodes (flat_map f ts)
lack_at_table nodes f ts i t lack some lt at before is =
    let there = some_there lack some in
    there.1 ∙ sym (table_found nodes f ts i t there.0 lt (sym at) before (sym is ∙ there.1))

pub tables_placed_more : (nodes : List NodeInfo) (f : Table → List Range) (ts : List Table) (i : ℕ) (t : Table) (lack : Option SqlRefusal) → is_some lack ≡ false → i < length ts → t ≡ get_or ts i t → first_lack nodes (flat_map f (take i ts)) ≡ None → lack ≡ first_lack nodes (f t) → first_lack nodes (flat_map f (take (i + 1) ts)) ≡ None
tables_placed_more nodes f ts i t lack none lt at before is = one_more_table nodes f ts i t lt (sym at) before (sym is ∙ none_there lack none)

pub all_tables_placed : (nodes : List NodeInfo) (f : Table → List Range) (ts : List Table) (i : ℕ) → length ts ≤ i → first_lack nodes (flat_map f (take i ts)) ≡ None → None ≡ first_lack nodes (flat_map f ts)
all_tables_placed nodes f ts i past before = sym (ap (λ l. first_lack nodes (flat_map f l)) (sym (take_all i ts past)) ∙ before)

-- ---- tables that a statement leaves as they are

lack_map : (nodes : List NodeInfo) (f g : ℕ → Range) → ((k : ℕ) → lack_in nodes (f k) ≡ lack_in nodes (g k)) → (ks : List ℕ) → first_lack nodes (map f ks) ≡ first_lack nodes (map g ks)
lack_map nodes f g same [] = refl
lack_map nodes f g same (k ∷ ks) = ap (λ o. option_or o (first_lack nodes (map f ks))) (same k) ∙ ap (option_or (lack_in nodes (g k))) (lack_map nodes f g same ks)

same_lack : (nodes : List NodeInfo) (d : Database) (t s : Table) → t.locality ≡ s.locality → first_lack nodes (ranges_in d t) ≡ first_lack nodes (ranges_in d s)
same_lack nodes d t s e =
    let g : Option Locality → ℕ → Range = λ l k. record { table = s.name; partition = option_and_then (slice_get d.regions) (place_of l k); config = configuration d l (place_of l k) } in
    lack_map nodes (range_at d t) (g t.locality) (λ k. refl) (range_with_len 0 (partitions d t.locality)) ∙ ap (λ l. first_lack nodes (map (g l) (range_with_len 0 (partitions d l)))) e

pub in_database : (ds : List Database) (t : Table) (d : Database) → database_named t.database ds ≡ Some d → ranges_of_table ds t ≡ ranges_in d t
in_database ds t d e = ap (λ o. option_map_or (λ x. ranges_in x t) o []) e

pub unchanged_lack : (nodes : List NodeInfo) (old new : Contents) (t table : Table) (d : Database) → first_lack nodes (ranges old) ≡ None → Contains old.tables t → t.locality ≡ table.locality → database_named t.database old.databases ≡ Some d → database_named table.database new.databases ≡ Some d → None ≡ first_lack nodes (ranges_of_table new.databases table)
unchanged_lack nodes old new t table d placed there locality was is =
    sym (ap (first_lack nodes) (in_database new.databases table d is) ∙ sym (same_lack nodes d t table locality) ∙ sym (ap (first_lack nodes) (in_database old.databases t d was))
    ∙ table_lacks_none nodes (ranges_of_table old.databases) old.tables placed t there)

-- No range of a table lacks anything.
pub none_lacks : (nodes : List NodeInfo) (d : Database) (t : Table) (k : ℕ) {n : ℕ} → first_lack nodes (ranges_in d t) ≡ None → k < n → n ≡ partitions d t.locality → lack_in nodes (range_at d t k) ≡ None
none_lacks nodes d t k placed lt size = lacks_none nodes (ranges_in d t) (range_at d t k) k placed (omega (arith, lt, size, how_many d t)) (here d t k (range_at d t k) (omega (arith, lt, size)))

-- ---- the regions of the cluster stay

of_current : (c : Contents) (f : Database → Contents) (o : Option Database) → ((d : Database) → (f d).regions ≡ c.regions) → (option_map_or f o c).regions ≡ c.regions
of_current c f None keeps = refl
of_current c f (Some d) keeps = keeps d

either_way : (b : Bool) (x y : Contents) (r : List (List ℕ)) → x.regions ≡ r → y.regions ≡ r → (cond b x y).regions ≡ r
either_way true x y r h k = h
either_way false x y r h k = k

pub regions_stay : (c : Contents) (s : RegionStatement) → (after c s).regions ≡ c.regions
regions_stay c (CreateDatabase name primary regions goal) = refl
regions_stay c (Use name) = refl
regions_stay c (SetPrimary name region) = elim (of_database c name has_regions) as (λ b. (cond b (Rattle.descriptors.specs.Changes.with_database c name (Rattle.descriptors.specs.Changes.with_primary region)) (record c { databases = Rattle.descriptors.specs.Lists.changed (Rattle.descriptors.specs.Contents.is_database name) (Rattle.descriptors.specs.Changes.with_first_region region) c.databases; tables = map (Rattle.descriptors.specs.Changes.homed_in_primary name) c.tables })).regions ≡ c.regions) [ true ↦ refl | false ↦ refl ]
regions_stay c (AddRegion name region) = refl
regions_stay c (DropRegion name region) = refl
regions_stay c (Survive name goal) = refl
regions_stay c (Placement name restricted) = refl
regions_stay c (CreateTable name items locality) = elim (current_database c) as (λ o. (option_map_or (λ d. Rattle.descriptors.specs.Changes.with_table c (Rattle.descriptors.specs.Changes.table_made d name items locality)) o c).regions ≡ c.regions) [ None ↦ refl | Some d ↦ refl ]
regions_stay c (SetLocality name locality) = elim (current_database c) as (λ o. (option_map_or (λ d. record c { tables = Rattle.descriptors.specs.Lists.changed (Rattle.descriptors.specs.Contents.is_table d.name name) (Rattle.descriptors.specs.Changes.with_locality locality) c.tables }) o c).regions ≡ c.regions) [ None ↦ refl | Some d ↦ refl ]

-- The nodes serve for the catalog after a statement.
pub served_after : (nodes same : List NodeInfo) (old was new : Contents) (s : RegionStatement) → same ≡ nodes → was ≡ old → new ≡ after old s → Serve nodes was.regions → Serve same new.regions
served_after nodes same old was new s n w e h =
    subst (λ l. Serve l new.regions) (sym n) (subst (Serve nodes) (ap (λ (c : Contents). c.regions) w ∙ sym (ap (λ (c : Contents). c.regions) e ∙ regions_stay old s)) h)

pub still_placeable : (nodes same : List NodeInfo) (old was new : Contents) (s : RegionStatement) (lack : Option SqlRefusal) → same ≡ nodes → was ≡ old → new ≡ after old s → Serve nodes was.regions → is_some lack ≡ false → lack ≡ first_lack same (ranges new) → IsPlaceable (record { nodes = nodes; contents = new })
still_placeable nodes same old was new s lack n w e h none is = record {
  served = served_after nodes nodes old was new s refl w e h;
  placed = subst (λ l. first_lack l (ranges new) ≡ None) n (sym is ∙ none_there lack none);
}
