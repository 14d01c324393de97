use Rattle.std.proofs.Common.{◌≡◌, ℕ, ◌+◌, ◌<◌, Bool, true, false, cond, ◌&&◌, List, [], ◌∷◌, ◌++◌, Option, None, Some, length, map, find, position, slice_get, option_and_then, set, get_or, refl, ap, sym, ◌∙◌, arith, nat_lt, subst, take, drop, append-nil}
use Rattle.std.specs.List.{position_from, position_or_len}
use Rattle.std.specs.Map.{lookup}
use Rattle.std.specs.Str.{bytes_eq}
use Rattle.std.proofs.lemmas.List.Folds.{find_at}
use Rattle.std.proofs.lemmas.Iterator.Adapters.{position_from-zero}
use Rattle.std.proofs.lemmas.Option.{slice_get_past, slice_get-map, get_or_from_slice_get, slice_get_within}
use Rattle.std.proofs.Math.Seq.{map-set_same}
use Rattle.std.proofs.lemmas.List.Elements.{All-weaker}
use Rattle.region_sql.specs.declared.region_statements.Locality.TheVariants.{InPrimary}
use Rattle.descriptors.specs.Changes.{homed_in_primary, with_locality}
use Rattle.std.proofs.lemmas.List.{length-map, take_all, drop_all}
use Rattle.std.proofs.lemmas.List.Quantifiers.{position-Some}
use Rattle.std.specs.Option.{option_map, IfSome}
use Rattle.descriptors.specs.declared.store.Entry.{Entry}
use Rattle.descriptors.specs.declared.table.Table.{Table}
use Rattle.descriptors.specs.Contents.{Contents, current_database, is_table}
use Rattle.descriptors.specs.Index.{placed, IsIndexed}

-- A look-up among the names is a search for the first item of that name.
lookup-placed_from : {X : Type 0} (test : X → Bool) (name : X → List ℕ) (n : List ℕ) (k : ℕ) (xs : List X) → lookup (bytes_eq n) (placed test name k xs) ≡ position_from (λ x. test x && bytes_eq n (name x)) k xs
lookup-placed_from test name n k [] = refl
lookup-placed_from {X} test name n k (x ∷ xs) =
    elim (test x) as (λ b. lookup (bytes_eq n) (cond b ((name x, k) ∷ placed test name (k + 1) xs) (placed test name (k + 1) xs)) ≡ cond (b && bytes_eq n (name x)) (Some k) (position_from (λ y. test y && bytes_eq n (name y)) (k + 1) xs)) [
      | true ↦ ap (λ r. cond (bytes_eq n (name x)) (Some k) r) (lookup-placed_from test name n (k + 1) xs)
      | false ↦ lookup-placed_from test name n (k + 1) xs
    ]

pub lookup-placed : {X : Type 0} (test : X → Bool) (name : X → List ℕ) (n : List ℕ) (xs : List X) → lookup (bytes_eq n) (placed test name 0 xs) ≡ position (λ x. test x && bytes_eq n (name x)) xs
lookup-placed test name n xs = lookup-placed_from test name n 0 xs ∙ sym (position_from-zero (λ x. test x && bytes_eq n (name x)) xs)

-- The first item that passes stands at the first place that passes.
pub find-position : {X : Type 0} (p : X → Bool) (xs : List X) → option_and_then (slice_get xs) (position p xs) ≡ find p xs
find-position p xs = by (nat_lt (position_or_len p xs) (length xs)) refl
  where
    by : (b : Bool) → nat_lt (position_or_len p xs) (length xs) ≡ b → option_and_then (slice_get xs) (position p xs) ≡ find p xs
    by true e = ap (λ b. option_and_then (slice_get xs) (cond b (Some (position_or_len p xs)) None)) e ∙ sym (find_at p xs)
    by false e = ap (λ b. option_and_then (slice_get xs) (cond b (Some (position_or_len p xs)) None)) e ∙ sym (find_at p xs ∙ slice_get_past xs (position_or_len p xs) (grind arith))

position_from-map : {X Y : Type 0} (p : Y → Bool) (f : X → Y) (k : ℕ) (xs : List X) → position_from p k (map f xs) ≡ position_from (λ x. p (f x)) k xs
position_from-map p f k [] = refl
position_from-map p f k (x ∷ xs) = ap (λ r. cond (p (f x)) (Some k) r) (position_from-map p f (k + 1) xs)

pub position-map : {X Y : Type 0} (p : Y → Bool) (f : X → Y) (xs : List X) → position p (map f xs) ≡ position (λ x. p (f x)) xs
position-map p f xs = position_from-zero p (map f xs) ∙ position_from-map p f 0 xs ∙ sym (position_from-zero (λ x. p (f x)) xs)

pub found_at : {X : Type 0} (p : X → Bool) (xs : List X) (k : ℕ) (x : X) → Some k ≡ position p xs → slice_get xs k ≡ Some x → Some x ≡ find p xs
found_at p xs k x at here = sym here ∙ ap (option_and_then (slice_get xs)) at ∙ find-position p xs

pub found_nowhere : {X : Type 0} (p : X → Bool) (xs : List X) → None ≡ position p xs → None ≡ find p xs
found_nowhere p xs at = ap (option_and_then (slice_get xs)) at ∙ find-position p xs

pub find-position_in : {X D : Type 0} (p : D → X → Bool) (xs : List X) (o : Option D) → option_and_then (slice_get xs) (option_and_then (λ d. position (p d) xs) o) ≡ option_and_then (λ d. find (p d) xs) o
find-position_in p xs None = refl
find-position_in p xs (Some d) = find-position (p d) xs

-- The current database's entry.
pub current_entry : (s : Contents) (es : List Entry) (place : ℕ) (o : Option Entry) → s.databases ≡ map (λ e. e.database) es → s.current ≡ Some place → o ≡ slice_get es place → current_database s ≡ option_map (λ e. e.database) o
current_entry s es place o d p h =
    ap (λ c. option_and_then (slice_get s.databases) c) p ∙ ap (λ ds. slice_get ds place) d ∙ slice_get-map (λ e. e.database) es place ∙ ap (option_map (λ e. e.database)) (sym h)

-- A look-up among the names of an entry's tables is a search for the first table of that name.
pub lookup_in_entry : (n : List ℕ) (places : List (List ℕ × ℕ)) (es : List Entry) (ts : List Table) → IsIndexed places es ts → (place : ℕ) (e : Entry) → Some e ≡ slice_get es place → lookup (bytes_eq n) e.tables ≡ position (is_table e.database.name n) ts
lookup_in_entry n places es ts i place e h =
    let here : get_or es place e ≡ e = get_or_from_slice_get es place e e (sym h) in
    let all : e.tables ≡ placed (λ t. bytes_eq e.database.name t.database) (λ t. t.name) 0 ts = subst (λ (x : Entry). x.tables ≡ placed (λ t. bytes_eq x.database.name t.database) (λ t. t.name) 0 ts) here (i.each place e (slice_get_within es place e (sym h))) in
    ap (lookup (bytes_eq n)) all ∙ lookup-placed (λ t. bytes_eq e.database.name t.database) (λ t. t.name) n ts

-- The names with their places depend on each item's name, and on whether it passes.
placed-map : {X : Type 0} (test : X → Bool) (name : X → List ℕ) (k : ℕ) (xs : List X) → placed test name k xs ≡ placed (λ p. p.0) (λ p. p.1) k (map {B = Bool × List ℕ} (λ x. (test x, name x)) xs)
placed-map test name k [] = refl
placed-map test name k (x ∷ xs) = ap (λ l. cond (test x) ((name x, k) ∷ l) l) (placed-map test name (k + 1) xs)

pub placed-set : {X : Type 0} (test : X → Bool) (name : X → List ℕ) (k : ℕ) (xs : List X) (i : ℕ) (y d : X) → test y ≡ test (get_or xs i d) → name y ≡ name (get_or xs i d) → placed test name k (set xs i y) ≡ placed test name k xs
placed-set {X} test name k xs i y d t n =
    let both : X → Bool × List ℕ = λ x. (test x, name x) in
    let same : both y ≡ both (get_or xs i d) = ap (λ b. (b, name y)) t ∙ ap (λ m. (test (get_or xs i d), m)) n in
    placed-map test name k (set xs i y) ∙ ap (placed (λ p. p.0) (λ p. p.1) k) (map-set_same both xs i y d same) ∙ sym (placed-map test name k xs)

pub within_from : {X : Type 0} (p : X → Bool) (xs : List X) (o : Option ℕ) → o ≡ position p xs → IfSome o (λ k. k < length xs)
within_from p xs None h = tt
within_from p [] (Some k) h = absurd cc
within_from p (x ∷ xs) (Some k) h = (position-Some p (x ∷ xs) k x (sym h)).0

-- The index of the tables depends on their names and their databases' names alone.
unfoldable pub table_key : Table → List ℕ × List ℕ
table_key t = (t.database, t.name)

placed-keys : (database : List ℕ) (k : ℕ) (ts : List Table) → placed (λ t. bytes_eq database t.database) (λ t. t.name) k ts ≡ placed {X = List ℕ × List ℕ} (λ p. bytes_eq database p.0) (λ p. p.1) k (map table_key ts)
unfolding table_key
placed-keys database k [] = refl
placed-keys database k (t ∷ ts) = ap (λ l. cond (bytes_eq database t.database) ((t.name, k) ∷ l) l) (placed-keys database (k + 1) ts)

pub reindexed : (ps : List (List ℕ × ℕ)) (es : List Entry) (ts new : List Table) → IsIndexed ps es ts → map table_key new ≡ map table_key ts → IsIndexed ps es new
reindexed ps es ts new i h = record {
  databases = i.databases;
  each = All-weaker (λ e. e.tables ≡ placed (λ t. bytes_eq e.database.name t.database) (λ t. t.name) 0 ts) (λ e. e.tables ≡ placed (λ t. bytes_eq e.database.name t.database) (λ t. t.name) 0 new)
      (λ e q. q ∙ placed-keys e.database.name 0 ts ∙ ap (placed (λ p. bytes_eq e.database.name p.0) (λ p. p.1) 0) (sym h) ∙ sym (placed-keys e.database.name 0 new)) es i.each;
}

homed-key : (name : List ℕ) (t : Table) → table_key (homed_in_primary name t) ≡ table_key t
unfolding table_key
homed-key name t = elim (bytes_eq name t.database) as (λ b. table_key (cond b (with_locality InPrimary t) t) ≡ table_key t) [ true ↦ refl | false ↦ refl ]

pub homed-keys : (name : List ℕ) (ts : List Table) → map table_key (map (homed_in_primary name) ts) ≡ map table_key ts
homed-keys name [] = refl
homed-keys name (t ∷ ts) = ap (λ k. k ∷ map table_key (map (homed_in_primary name) ts)) (homed-key name t) ∙ ap (λ l. table_key t ∷ l) (homed-keys name ts)

-- A slice of all items, each changed, written back.
pub written_whole : (h : Table → Table) (items lent new : List Table) (n : ℕ) → new ≡ map h lent → lent ≡ items → n ≡ length items → take n (new ++ drop (length new) items) ≡ map h items
written_whole h items lent new n e v l =
    let all : new ≡ map h items = e ∙ ap (map h) v in
    let len : length new ≡ length items = ap length all ∙ length-map items h in
    let none : drop (length new) items ≡ [] = ap (λ k. drop k items) len ∙ drop_all (length items) items (omega arith) in
    ap (λ r. take n (new ++ r)) none ∙ ap (take n) (append-nil new) ∙ take_all n new (omega (arith, len, l)) ∙ all
