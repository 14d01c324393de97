-- A search by an index goes to the near partition first.
use Rattle.std.proofs.Common.{◌≡◌, ℕ, ◌+◌, Bool, true, false, List, [], ◌∷◌, ◌++◌, refl, sym, ap, ◌∙◌, subst, inl, inr, arith}
use Rattle.std.specs.Prelude.{◌≢◌, not, if◌then◌else◌, filter, map, Contains, Option, Some, None}
use Rattle.std.specs.List.{AllByRecursion, enumerate_from}
use Rattle.std.specs.Option.{option_map_or}
use Rattle.std.specs.Str.{bytes_eq}
use Rattle.std.proofs.lemmas.List.Elements.{recursion_from_All}
use Rattle.std.proofs.lemmas.Slice.Eq.{bytes_eq-Decides}
use Rattle.descriptors.specs.declared.database.Database.{Database}
use Rattle.descriptors.specs.declared.table.Table.{Table}
use Rattle.descriptors.specs.Contents.{Contents}
use Rattle.descriptors.specs.Sound.{AreDistinct, IsSoundCatalog, IsSoundDatabase}
use Rattle.row_locality.specs.Plain.{Layout, Partition, range_at, regions_of, database_of, partitions}
use Rattle.row_locality.specs.Rows.{is_by_row}
use Rattle.sql_eval.specs.Lookups.{is_in_region, near_first}
use Rattle.answer_laws.proofs.Members.{Has, has_itself, each_has, pairs_head, pairs_tail, has_filter, filter_has, first_of_some, find_has}

-- ---- a region has one partition

abbrev parts : Layout → ℕ → ℕ → List (Option (List ℕ)) → List Partition
parts l place k regions = map (λ x. record { range = range_at l place x.0; region = x.1 }) (enumerate_from k regions)

same_region : {a b : List ℕ} → Some a ≡ Some b → a ≡ b
same_region e = cc

region_there : (l : Layout) (place k : ℕ) (rs : List (List ℕ)) (p : Partition) (r : List ℕ) → Has p (parts l place k (map (λ x. Some x) rs)) → p.region ≡ Some r → Has r rs
region_there l place k [] p r h e = absurd h
region_there l place k (x ∷ rs) p r (inl q) e = inl (same_region (ap (λ (z : Partition). z.region) q ∙ e))
region_there l place k (x ∷ rs) p r (inr h) e = inr (region_there l place (k + 1) rs p r h e)

one_partition : (l : Layout) (place k : ℕ) (rs : List (List ℕ)) → AreDistinct rs → (p q : Partition) (r : List ℕ)
    → Has p (parts l place k (map (λ x. Some x) rs)) → Has q (parts l place k (map (λ x. Some x) rs)) → p.region ≡ Some r → q.region ≡ Some r → p ≡ q
one_partition l place k [] d p q r h i e f = absurd h
one_partition l place k (x ∷ rs) d p q r (inl a) (inl b) e f = sym a ∙ b
one_partition l place k (x ∷ rs) d p q r (inl a) (inr b) e f =
    let s : x ≡ r = same_region (ap (λ (z : Partition). z.region) a ∙ e) in
    absurd (each_has (λ y. x ≢ y) r rs (pairs_head (λ y z. y ≢ z) x rs d) (region_there l place (k + 1) rs q r b f) s)
one_partition l place k (x ∷ rs) d p q r (inr a) (inl b) e f =
    let s : x ≡ r = same_region (ap (λ (z : Partition). z.region) b ∙ f) in
    absurd (each_has (λ y. x ≢ y) r rs (pairs_head (λ y z. y ≢ z) x rs d) (region_there l place (k + 1) rs p r a e) s)
one_partition l place k (x ∷ rs) d p q r (inr a) (inr b) e f = one_partition l place (k + 1) rs (pairs_tail (λ y z. y ≢ z) x rs d) p q r a b e f

one_by : (l : Layout) (place : ℕ) (b : Bool) (rs : List (List ℕ)) → AreDistinct rs → (p q : Partition) (r : List ℕ)
    → Has p (parts l place 0 (if b then map (λ x. Some x) rs else None ∷ [])) → Has q (parts l place 0 (if b then map (λ x. Some x) rs else None ∷ []))
    → p.region ≡ Some r → q.region ≡ Some r → p ≡ q
one_by l place true rs d p q r h i e f = one_partition l place 0 rs d p q r h i e f
one_by l place false rs d p q r (inl a) (inl b) e f = sym a ∙ b
one_by l place false rs d p q r (inl a) (inr b) e f = absurd b
one_by l place false rs d p q r (inr a) i e f = absurd a

no_regions : AreDistinct {A = List ℕ} []
no_regions = λ i j d p q. absurd (omega arith)

distinct_by : (ds : List Database) (o : Option Database) → AllByRecursion IsSoundDatabase ds → ((d : Database) → o ≡ Some d → Has d ds)
    → AreDistinct (option_map_or (λ d. d.regions) o [])
distinct_by ds None h k = no_regions
distinct_by ds (Some d) h k = let s : IsSoundDatabase d = each_has IsSoundDatabase d ds h (k d refl) in s.distinct

-- the regions of a table are distinct
pub distinct_regions : (c : Contents) (t : Table) → IsSoundCatalog c → AreDistinct (regions_of c t)
distinct_regions c t h =
    distinct_by c.databases (database_of c t) (recursion_from_All IsSoundDatabase c.databases h.databases) (λ d e. find_has _ c.databases d e)

region_test : (region : List ℕ) (o : Option (List ℕ)) → option_map_or (bytes_eq region) o false ≡ true → o ≡ Some region
region_test region None e = absurd (cc)
region_test region (Some r) e = ap (λ (x : List ℕ). Some x) (sym ((bytes_eq-Decides region r).0 e))

pub region_passes : (region : List ℕ) (o : Option (List ℕ)) → o ≡ Some region → option_map_or (bytes_eq region) o false ≡ true
region_passes region o e = subst (λ x. option_map_or (bytes_eq region) x false ≡ true) (sym e) ((bytes_eq-Decides region region).1 refl)

-- the near partition comes first
pub near_is_first : (l : Layout) (place : ℕ) (t : Table) (region : List ℕ) (near : Partition) → IsSoundCatalog l.catalog
    → Contains (partitions l place t) near → near.region ≡ Some region
    → (more : List Partition) × (near_first region (partitions l place t) ≡ near ∷ more)
near_is_first l place t region near h c e =
    let there : Has near (partitions l place t) = has_itself near (partitions l place t) c in
    let kept : Has near (filter (is_in_region region) (partitions l place t)) = has_filter (is_in_region region) (partitions l place t) near there (region_passes region near.region e) in
    let r : (y : Partition) × (ys : List Partition) × (filter (is_in_region region) (partitions l place t) ≡ y ∷ ys) × Has y (filter (is_in_region region) (partitions l place t)) =
    first_of_some (filter (is_in_region region) (partitions l place t)) near kept in
    let k : Has r.0 (partitions l place t) × (is_in_region region r.0 ≡ true) = filter_has (is_in_region region) (partitions l place t) r.0 r.3 in
    let one : r.0 ≡ near = one_by l place (is_by_row t) (regions_of l.catalog t) (distinct_regions l.catalog t h) r.0 near region k.0 there (region_test region r.0.region k.1) e in
    let others : List Partition = filter (λ p. not (is_in_region region p)) (partitions l place t) in
    (r.1 ++ others, ap (λ (ps : List Partition). ps ++ others) (subst (λ p. filter (is_in_region region) (partitions l place t) ≡ p ∷ r.1) one r.2))
