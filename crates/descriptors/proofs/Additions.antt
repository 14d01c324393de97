use Rattle.std.proofs.Common.{◌≡◌, ◌≢◌, ℕ, ◌+◌, ◌<◌, Bool, true, false, cond, List, [], ◌∷◌, ◌++◌, Option, None, Some, All, AllPairs, length, map, find, position, set, get_or, refl, ap, sym, ◌∙◌, arith, subst, add-zero, zero-add, append-nil, inl, inr, ◌⊎◌, slice_get, IsSomeAnd, option_and_then}
use Rattle.std.specs.List.{position_from}
use Rattle.std.specs.Map.{lookup}
use Rattle.std.specs.Str.{bytes_eq}
use Rattle.std.proofs.lemmas.Bool.{cases_order, cases_eq}
use Rattle.std.proofs.lemmas.Iterator.Adapters.{position_from-zero}
use Rattle.std.proofs.lemmas.List.{get_or-map, get_or-set_other, get_or-set_same, length-map, length-set}
use Rattle.std.proofs.lemmas.List.Elements.{All-head, All-tail, All-push}
use Rattle.std.specs.Option.{option_map, option_map_or}
use Rattle.std.proofs.lemmas.Option.{none-some, slice_get_within, get_or_from_slice_get, slice_get_read}
use Rattle.std.proofs.Math.Seq.{map-set_same}
use Rattle.std.proofs.lemmas.Slice.Eq.{bytes_eq-Decides}
use Rattle.descriptors.specs.declared.database.Database.{Database}
use Rattle.descriptors.specs.declared.store.Entry.{Entry}
use Rattle.descriptors.specs.declared.table.Table.{Table}
use Rattle.region_sql.specs.declared.region_statements.Locality.{Locality}
use Rattle.descriptors.specs.Contents.{Contents, is_table}
use Rattle.descriptors.specs.Changes.{with_locality, with_table}
use Rattle.descriptors.specs.Lists.{changed}
use Rattle.descriptors.specs.Index.{IsIndexed, placed}
use Rattle.descriptors.proofs.Edits.{changed-at, changed-none}
use Rattle.descriptors.proofs.Index.{placed-set, lookup_in_entry, reindexed, table_key}

pub bytes_differ : (a b : List ℕ) → a ≢ b → bytes_eq a b ≡ false
bytes_differ a b differ = by (bytes_eq a b) refl
  where
    by : (r : Bool) → bytes_eq a b ≡ r → bytes_eq a b ≡ false
    by true e = absurd (differ ((bytes_eq-Decides a b).0 e))
    by false e = e

pub bytes_same : (a b : List ℕ) → a ≡ b → bytes_eq a b ≡ true
bytes_same a b same = (bytes_eq-Decides a b).1 same

-- One more item at the end.
placed-push : {X : Type 0} (test : X → Bool) (name : X → List ℕ) (k : ℕ) (xs : List X) (y : X) → placed test name k (xs ++ y ∷ []) ≡ placed test name k xs ++ placed test name (k + length xs) (y ∷ [])
placed-push test name k [] y = ap (λ n. placed test name n (y ∷ [])) (sym (add-zero k))
placed-push test name k (x ∷ xs) y =
    let rest : placed test name (k + 1) (xs ++ y ∷ []) ≡ placed test name (k + 1) xs ++ placed test name (k + length (x ∷ xs)) (y ∷ []) =
    placed-push test name (k + 1) xs y ∙ ap (λ n. placed test name (k + 1) xs ++ placed test name n (y ∷ [])) (omega arith) in
    elim (test x) as (λ b. cond b ((name x, k) ∷ placed test name (k + 1) (xs ++ y ∷ [])) (placed test name (k + 1) (xs ++ y ∷ [])) ≡ cond b ((name x, k) ∷ placed test name (k + 1) xs) (placed test name (k + 1) xs) ++ placed test name (k + length (x ∷ xs)) (y ∷ [])) [
      | true ↦ ap (λ l. (name x, k) ∷ l) rest
      | false ↦ rest
    ]

pub placed_passing : {X : Type 0} (test : X → Bool) (name : X → List ℕ) (xs : List X) (y : X) → test y ≡ true → placed test name 0 (xs ++ y ∷ []) ≡ placed test name 0 xs ++ (name y, length xs) ∷ []
placed_passing test name xs y h =
    placed-push test name 0 xs y ∙ ap (λ n. placed test name 0 xs ++ placed test name n (y ∷ [])) (zero-add (length xs))
    ∙ ap (λ b. placed test name 0 xs ++ cond b ((name y, length xs) ∷ []) []) h

pub placed_failing : {X : Type 0} (test : X → Bool) (name : X → List ℕ) (xs : List X) (y : X) → test y ≡ false → placed test name 0 (xs ++ y ∷ []) ≡ placed test name 0 xs
placed_failing test name xs y h =
    placed-push test name 0 xs y ∙ ap (λ b. placed test name 0 xs ++ cond b ((name y, 0 + length xs) ∷ []) []) h ∙ append-nil (placed test name 0 xs)

-- No name where no item passes.
pub placed_none : {X : Type 0} (test : X → Bool) (name : X → List ℕ) (k : ℕ) (xs : List X) → All (λ x. test x ≡ false) xs → placed test name k xs ≡ []
placed_none test name k [] h = refl
placed_none test name k (x ∷ xs) h =
    ap (λ b. cond b ((name x, k) ∷ placed test name (k + 1) xs) (placed test name (k + 1) xs)) (All-head (λ x. test x ≡ false) x xs h)
    ∙ placed_none test name (k + 1) xs (All-tail (λ x. test x ≡ false) x xs h)

not_placed_from : {X : Type 0} (p : X → Bool) (k : ℕ) (xs : List X) → find p xs ≡ None → position_from p k xs ≡ None
not_placed_from p k [] h = refl
not_placed_from {X} p k (x ∷ xs) h = by (p x) refl (not_placed_from p (k + 1) xs)
  where
    by : (b : Bool) → p x ≡ b → (find p xs ≡ None → position_from p (k + 1) xs ≡ None) → position_from p k (x ∷ xs) ≡ None
    by true e rest = let bad : Some x ≡ None = ap (λ b. cond b (Some x) (find p xs)) (sym e) ∙ h in absurd (none-some x (sym bad))
    by false e rest = ap (λ b. cond b (Some k) (position_from p (k + 1) xs)) e ∙ rest (ap (λ b. cond b (Some x) (find p xs)) (sym e) ∙ h)

-- An item that isn't found has no place.
pub not_placed : {X : Type 0} (p : X → Bool) (xs : List X) → find p xs ≡ None → position p xs ≡ None
not_placed p xs h = position_from-zero p xs ∙ not_placed_from p 0 xs h

-- A database at the end, without tables.
pub added_database : (ps new : List (List ℕ × ℕ)) (es : List Entry) (ts : List Table) (e : Entry) → IsIndexed ps es ts → new ≡ ps ++ (e.database.name, length es) ∷ [] → e.tables ≡ [] → All (λ (t : Table). bytes_eq e.database.name t.database ≡ false) ts → IsIndexed new (es ++ e ∷ []) ts
added_database ps new es ts e i n empty alone = record {
  databases = n ∙ ap (λ l. l ++ (e.database.name, length es) ∷ []) i.databases ∙ sym (placed_passing (λ _. true) (λ x. x.database.name) es e refl);
  each = All-push (λ x. x.tables ≡ placed (λ t. bytes_eq x.database.name t.database) (λ t. t.name) 0 ts) es e i.each
      (empty ∙ sym (placed_none (λ t. bytes_eq e.database.name t.database) (λ t. t.name) 0 ts alone));
}

-- The names of the databases at two places differ.
apart : (es : List Entry) (i j : ℕ) (d e : Entry) → AllPairs (λ a b. a.name ≢ b.name) (map (λ x. x.database) es) → i ≢ j → i < length es → j < length es → (get_or es i d).database.name ≢ (get_or es j e).database.name
apart es i j d e distinct differ li lj = by (cases_order i j)
  where
    at : (k : ℕ) (x : Entry) (y : Database) → k < length es → get_or (map (λ (x : Entry). x.database) es) k y ≡ (get_or es k x).database
    at k x y lt = get_or-map (λ (x : Entry). x.database) es k x y lt

    by : (i ≡ j) ⊎ ((i < j) ⊎ (j < i)) → (get_or es i d).database.name ≢ (get_or es j e).database.name
    by (inl same) = absurd (differ same)
    by (inr (inl lt)) = λ h. distinct i j d.database lt (subst (λ n. j < n) (sym (length-map es (λ (x : Entry). x.database))) lj) (ap (λ (x : Database). x.name) (at i d d.database li) ∙ h ∙ sym (ap (λ (x : Database). x.name) (at j e d.database lj)))
    by (inr (inr lt)) = λ h. distinct j i d.database lt (subst (λ n. i < n) (sym (length-map es (λ (x : Entry). x.database))) li) (ap (λ (x : Database). x.name) (at j e d.database lj) ∙ sym h ∙ sym (ap (λ (x : Database). x.name) (at i d d.database li)))

abbrev HasPlaces : List Table → Entry → Type 0
HasPlaces ts x = x.tables ≡ placed (λ y. bytes_eq x.database.name y.database) (λ y. y.name) 0 ts

-- A table at the end, whose name stands beside its database.
pub added_table : (ps : List (List ℕ × ℕ)) (es : List Entry) (ts : List Table) (k : ℕ) (e new : Entry) (t : Table) → IsIndexed ps es ts → e ≡ get_or es k e → k < length es → AllPairs (λ a b. a.name ≢ b.name) (map (λ (x : Entry). x.database) es) → t.database ≡ e.database.name → new.database ≡ e.database → new.tables ≡ e.tables ++ (t.name, length ts) ∷ [] → IsIndexed ps (set es k new) (ts ++ t ∷ [])
added_table ps es ts k e new t i at lt distinct home d n = record {
  databases = i.databases ∙ sym (placed-set (λ _. true) (λ x. x.database.name) 0 es k new e refl (ap (λ (x : Database). x.name) d ∙ ap (λ (x : Entry). x.database.name) at));
  each = λ j x lj. by j x lj (cases_eq j k);
}
  where
    own : HasPlaces (ts ++ t ∷ []) new
    own =
        n ∙ ap (λ l. l ++ (t.name, length ts) ∷ []) (subst (λ (x : Entry). x.tables ≡ placed (λ y. bytes_eq x.database.name y.database) (λ y. y.name) 0 ts) (sym at) (i.each k e lt))
        ∙ sym (placed_passing (λ y. bytes_eq e.database.name y.database) (λ y. y.name) ts t (bytes_same e.database.name t.database (sym home)))
        ∙ ap (λ (x : Database). placed (λ (y : Table). bytes_eq x.name y.database) (λ y. y.name) 0 (ts ++ t ∷ [])) (sym d)

    other : (x : Entry) → x.tables ≡ placed (λ y. bytes_eq x.database.name y.database) (λ y. y.name) 0 ts → x.database.name ≢ t.database → HasPlaces (ts ++ t ∷ []) x
    other x h differ = h ∙ sym (placed_failing (λ y. bytes_eq x.database.name y.database) (λ y. y.name) ts t (bytes_differ x.database.name t.database differ))

    by : (j : ℕ) (x : Entry) → j < length (set es k new) → (j ≡ k) ⊎ (j ≡ k → ⊥) → HasPlaces (ts ++ t ∷ []) (get_or (set es k new) j x)
    by j x lj (inl same) = subst (HasPlaces (ts ++ t ∷ [])) (sym (ap (λ m. get_or (set es k new) m x) same ∙ get_or-set_same es k new x lt)) own
    by j x lj (inr differ) =
        let lj' : j < length es = subst (λ m. j < m) (length-set es k new) lj in
        subst (HasPlaces (ts ++ t ∷ [])) (sym (get_or-set_other es k j new x differ)) (other (get_or es j x) (i.each j x lj') (λ h. apart es j k x e distinct differ lj' lt (h ∙ home ∙ ap (λ (y : Entry). y.database.name) at)))

-- The current database stands at the current place.
pub home_of : (es : List Entry) (k : ℕ) (e : Entry) (m : List ℕ) → e ≡ get_or es k e → IsSomeAnd (option_map (λ (x : Entry). x.database) (slice_get es k)) (λ d. d.name ≡ m) → (k < length es) × (e.database.name ≡ m)
home_of es k e m at r = by (slice_get es k) refl r
  where
    by : (o : Option Entry) → slice_get es k ≡ o → IsSomeAnd (option_map (λ (x : Entry). x.database) o) (λ d. d.name ≡ m) → (k < length es) × (e.database.name ≡ m)
    by None s h = absurd h
    by (Some x) s h = (slice_get_within es k x s, ap (λ (y : Entry). y.database.name) (at ∙ get_or_from_slice_get es k x e s) ∙ h)

-- A name that no table of the database has stands not beside it.
pub absent_in_entry : (ps : List (List ℕ × ℕ)) (es : List Entry) (ts : List Table) (k : ℕ) (e : Entry) (m n : List ℕ) → IsIndexed ps es ts → e ≡ get_or es k e → k < length es → e.database.name ≡ m → find (is_table m n) ts ≡ None → lookup (bytes_eq n) e.tables ≡ None
absent_in_entry ps es ts k e m n i at lt home none =
    lookup_in_entry n ps es ts i k e (sym (slice_get_read es (length es) k e refl lt at)) ∙ ap (λ x. position (is_table x n) ts) home ∙ not_placed (is_table m n) ts none

pub relocated_index : (ps : List (List ℕ × ℕ)) (es : List Entry) (ts : List Table) (k : ℕ) (t new : Table) (l : Locality) → IsIndexed ps es ts → t ≡ get_or ts k t → new ≡ with_locality l t → IsIndexed ps es (set ts k new)
unfolding table_key
relocated_index ps es ts k t new l i at n =
    reindexed ps es ts (set ts k new) i (map-set_same table_key ts k new t (ap table_key n ∙ ap table_key at))

-- The table of a name in the current database, changed in its place.
pub relocated : (now : Contents) (n : List ℕ) (f : Table → Table) (o : Option Database) (k : ℕ) (t new : Table) → Some k ≡ option_and_then (λ d. position (is_table d.name n) now.tables) o → t ≡ get_or now.tables k t → new ≡ f t → record now { tables = set now.tables k new } ≡ option_map_or (λ d. record now { tables = changed (is_table d.name n) f now.tables }) o now
relocated now n f None k t new p at h = absurd (none-some k (sym p))
relocated now n f (Some d) k t new p at h =
    ap (λ ts. record now { tables = ts }) (ap (set now.tables k) (h ∙ ap f at) ∙ sym (changed-at (is_table d.name n) f now.tables k t (sym p)))

pub not_relocated : (now : Contents) (n : List ℕ) (f : Table → Table) (o : Option Database) (k : Option ℕ) → k ≡ option_and_then (λ d. position (is_table d.name n) now.tables) o → ((i : ℕ) → k ≡ Some i → ⊥) → now ≡ option_map_or (λ d. record now { tables = changed (is_table d.name n) f now.tables }) o now
not_relocated now n f o (Some i) p none = absurd (none i refl)
not_relocated now n f None None p none = refl
not_relocated now n f (Some d) None p none = sym (ap (λ ts. record now { tables = ts }) (changed-none (is_table d.name n) f now.tables (sym p)))

-- A table at the end of the tables.
pub tabled_view : (rs : List (List ℕ)) (es : List Entry) (ts new : List Table) (current : Option ℕ) (now : Contents) (k : ℕ) (e e' : Entry) (t : Table)
    → record { regions = rs; databases = map (λ (x : Entry). x.database) es; tables = ts; current = current } ≡ now
    → e ≡ get_or es k e → e'.database ≡ e.database → new ≡ ts ++ t ∷ []
    → record { regions = rs; databases = map (λ (x : Entry). x.database) (set es k e'); tables = new; current = current } ≡ with_table now t
tabled_view rs es ts new current now k e e' t v at d n =
    ap (λ ds. record { regions = rs; databases = ds; tables = new; current = current }) (map-set_same (λ (x : Entry). x.database) es k e' e (d ∙ ap (λ (x : Entry). x.database) at))
    ∙ ap (λ l. record { regions = rs; databases = map (λ (x : Entry). x.database) es; tables = l; current = current }) n
    ∙ ap (λ c. with_table c t) v
