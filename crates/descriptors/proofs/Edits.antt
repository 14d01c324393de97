use Rattle.std.proofs.Common.{◌≡◌, ℕ, zero, suc, ◌+◌, ◌<◌, Bool, true, false, cond, List, [], ◌∷◌, Option, None, Some, Result, Ok, Err, OnOk, find, length, map, position, set, get_or, refl, ap, sym, ◌∙◌, arith, subst}
use Rattle.std.specs.List.{position_from}
use Rattle.std.proofs.lemmas.Iterator.Adapters.{position_from-zero}
use Rattle.std.proofs.lemmas.List.{map-set, get_or-map, length-map}
use Rattle.std.proofs.lemmas.List.Elements.{All-set}
use Rattle.std.proofs.lemmas.List.Quantifiers.{position-Some}
use Rattle.std.proofs.lemmas.Option.{none-some}
use Rattle.std.specs.Option.{option_map_or}
use Rattle.std.specs.Str.{bytes_eq}
use Rattle.region_sql.specs.declared.region_statements.RegionStatement.{RegionStatement}
use Rattle.region_sql.specs.declared.region_statements.RegionStatement.TheVariants.{SetPrimary}
use Rattle.descriptors.specs.declared.database.Database.{Database}
use Rattle.descriptors.specs.declared.store.Entry.{Entry}
use Rattle.descriptors.specs.declared.table.Table.{Table}
use Rattle.descriptors.specs.Contents.{Contents, is_database}
use Rattle.descriptors.specs.Changes.{after, altered, homed_in_primary, with_database, with_first_region, with_primary}
use Rattle.descriptors.specs.Index.{IsIndexed, placed}
use Rattle.descriptors.specs.Lists.{changed}
use Rattle.descriptors.specs.Refusals.{has_regions, of_database}
use Rattle.descriptors.proofs.Index.{placed-set}

changed-first : {X : Type 0} (p : X → Bool) (f : X → X) (xs : List X) (i : ℕ) (d : X) → i < length xs → p (get_or xs i d) ≡ true → ((k : ℕ) → k < i → p (get_or xs k d) ≡ false) → changed p f xs ≡ set xs i (f (get_or xs i d))
changed-first p f [] i d lt hit miss = absurd (omega arith)
changed-first p f (x ∷ xs) zero d lt hit miss = ap (λ b. cond b (f x ∷ xs) (x ∷ changed p f xs)) hit
changed-first p f (x ∷ xs) (suc i) d lt hit miss =
    ap (λ b. cond b (f x ∷ xs) (x ∷ changed p f xs)) (miss 0 (omega arith)) ∙ ap (λ l. x ∷ l) (changed-first p f xs i d (omega arith) hit (λ k h. miss (suc k) (omega arith)))

-- The first item that passes stands at the first place that passes.
pub changed-at : {X : Type 0} (p : X → Bool) (f : X → X) (xs : List X) (i : ℕ) (d : X) → position p xs ≡ Some i → changed p f xs ≡ set xs i (f (get_or xs i d))
changed-at p f xs i d at = let h = position-Some p xs i d at in changed-first p f xs i d h.0 h.1 h.2

changed-none_from : {X : Type 0} (p : X → Bool) (f : X → X) (k : ℕ) (xs : List X) → position_from p k xs ≡ None → changed p f xs ≡ xs
changed-none_from p f k [] h = refl
changed-none_from p f k (x ∷ xs) h = by (p x) refl (changed-none_from p f (k + 1) xs)
  where
    by : (b : Bool) → p x ≡ b → (position_from p (k + 1) xs ≡ None → changed p f xs ≡ xs) → changed p f (x ∷ xs) ≡ x ∷ xs
    by true e rest = let bad : Some k ≡ None = ap (λ b. cond b (Some k) (position_from p (k + 1) xs)) (sym e) ∙ h in absurd (none-some k (sym bad))
    by false e rest = ap (λ b. cond b (f x ∷ xs) (x ∷ changed p f xs)) e ∙ ap (λ l. x ∷ l) (rest (ap (λ b. cond b (Some k) (position_from p (k + 1) xs)) (sym e) ∙ h))

-- Nothing changes where no item passes.
pub changed-none : {X : Type 0} (p : X → Bool) (f : X → X) (xs : List X) → position p xs ≡ None → changed p f xs ≡ xs
changed-none p f xs h = changed-none_from p f 0 xs (sym (position_from-zero p xs) ∙ h)

-- An entry put in the place of one of the same name and tables leaves the index right.
pub edited_index : (ps : List (List ℕ × ℕ)) (es : List Entry) (ts : List Table) (k : ℕ) (e new : Entry) → IsIndexed ps es ts → e ≡ get_or es k e → k < length es → new.database.name ≡ e.database.name → new.tables ≡ e.tables → IsIndexed ps (set es k new) ts
edited_index ps es ts k e new i at lt n t = record {
  databases = i.databases ∙ sym (placed-set (λ _. true) (λ x. x.database.name) 0 es k new e refl (n ∙ ap (λ (x : Entry). x.database.name) at));
  each = All-set (λ x. x.tables ≡ placed (λ t. bytes_eq x.database.name t.database) (λ t. t.name) 0 ts) es k new
      (t ∙ subst (λ (x : Entry). x.tables ≡ placed (λ t. bytes_eq x.database.name t.database) (λ t. t.name) 0 ts) (sym at) (i.each k e lt)
      ∙ ap (λ m. placed (λ (t : Table). bytes_eq m t.database) (λ t. t.name) 0 ts) (sym n)) i.each;
}

-- The database of a name changed in its place.
pub edited_view : (rs : List (List ℕ)) (es : List Entry) (ts : List Table) (current : Option ℕ) (now : Contents) (name : List ℕ) (f : Database → Database) (k : ℕ) (e new : Entry)
    → record { regions = rs; databases = map (λ x. x.database) es; tables = ts; current = current } ≡ now
    → Some k ≡ position (is_database name) now.databases → e ≡ get_or es k e → k < length es → new.database ≡ f e.database
    → record { regions = rs; databases = map (λ x. x.database) (set es k new); tables = ts; current = current } ≡ with_database now name f
edited_view rs es ts current now name f k e new v p at lt h =
    let here : position (is_database name) (map (λ x. x.database) es) ≡ Some k = ap (λ (c : Contents). position (is_database name) c.databases) v ∙ sym p in
    let was : get_or (map (λ x. x.database) es) k e.database ≡ e.database = get_or-map (λ x. x.database) es k e e.database lt ∙ ap (λ (x : Entry). x.database) (sym at) in
    ap (λ ds. record { regions = rs; databases = ds; tables = ts; current = current }) (map-set (λ x. x.database) es k new ∙ ap (set (map (λ x. x.database) es) k) (h ∙ ap f (sym was)) ∙ sym (changed-at (is_database name) f (map (λ x. x.database) es) k e.database here))
    ∙ ap (λ c. with_database c name f) v

-- No database of that name: nothing changes.
pub unedited : (now : Contents) (name : List ℕ) (f : Database → Database) (o : Option ℕ) → o ≡ position (is_database name) now.databases → ((k : ℕ) → o ≡ Some k → ⊥) → now ≡ with_database now name f
unedited now name f None p none = sym (ap (λ ds. record now { databases = ds }) (changed-none (is_database name) f now.databases (sym p)))
unedited now name f (Some k) p none = absurd (none k refl)

pub entry_within : (rs : List (List ℕ)) (es : List Entry) (ts : List Table) (current : Option ℕ) (now : Contents) (k : ℕ) → record { regions = rs; databases = map (λ x. x.database) es; tables = ts; current = current } ≡ now → k < length now.databases → k < length es
entry_within rs es ts current now k v h = subst (λ n. k < n) (sym (ap (λ (c : Contents). length c.databases) v) ∙ length-map es (λ (x : Entry). x.database)) h

-- The item that is changed decides which of two changes it is.
changed-chosen : {X : Type 0} (p q : X → Bool) (f g : X → X) (b : Bool) (xs : List X) → option_map_or q (find p xs) b ≡ b
    → changed p (λ x. cond (q x) (f x) (g x)) xs ≡ changed p (cond b f g) xs
changed-chosen p q f g b [] h = refl
changed-chosen {X} p q f g b (x ∷ xs) h = by (p x) h (changed-chosen p q f g b xs)
  where
    by : (t : Bool) → option_map_or q (cond t (Some x) (find p xs)) b ≡ b
        → (option_map_or q (find p xs) b ≡ b → changed p (λ y. cond (q y) (f y) (g y)) xs ≡ changed p (cond b f g) xs)
        → cond t (cond (q x) (f x) (g x) ∷ xs) (x ∷ changed p (λ y. cond (q y) (f y) (g y)) xs) ≡ cond t (cond b f g x ∷ xs) (x ∷ changed p (cond b f g) xs)
    by true k rest = ap (λ r. cond r (f x) (g x) ∷ xs) k ∙ ap (λ y. y ∷ xs) (chosen-at b)
      where
        chosen-at : (r : Bool) → cond r (f x) (g x) ≡ cond r f g x
        chosen-at true = refl
        chosen-at false = refl
    by false k rest = ap (λ l. x ∷ l) (rest k)

or_found : {X : Type 0} (q : X → Bool) (o : Option X) → option_map_or q o false ≡ true → option_map_or q o true ≡ true
or_found q None h = refl
or_found q (Some x) h = h

-- SET PRIMARY REGION in a database with regions.
pub another_primary : (c : Contents) (s : RegionStatement) (n r : List ℕ) → s ≡ SetPrimary n r → of_database c n has_regions ≡ true → with_database c n (altered s) ≡ after c (SetPrimary n r)
another_primary c s n r e h =
    ap (λ (t : RegionStatement). with_database c n (altered t)) e
    ∙ ap (λ ds. record c { databases = ds }) (changed-chosen (is_database n) has_regions (with_primary r) (with_first_region r) true c.databases (or_found has_regions (find (is_database n) c.databases) h))
    ∙ ap (λ b. cond b (with_database c n (with_primary r)) (record c { databases = changed (is_database n) (with_first_region r) c.databases; tables = map (homed_in_primary n) c.tables })) (sym h)

-- SET PRIMARY REGION in a database without.
pub first_primary : (c mid : Contents) (s : RegionStatement) (n r : List ℕ) → s ≡ SetPrimary n r → of_database c n has_regions ≡ false → mid ≡ with_database c n (altered s)
    → record mid { tables = map (homed_in_primary n) mid.tables } ≡ after c (SetPrimary n r)
first_primary c mid s n r e h m =
    ap (λ (x : Contents). record x { tables = map (homed_in_primary n) x.tables }) (m ∙ ap (λ (t : RegionStatement). with_database c n (altered t)) e)
    ∙ ap (λ ds. record c { databases = ds; tables = map (homed_in_primary n) c.tables }) (changed-chosen (is_database n) has_regions (with_primary r) (with_first_region r) false c.databases h)
    ∙ ap (λ b. cond b (with_database c n (with_primary r)) (record c { databases = changed (is_database n) (with_first_region r) c.databases; tables = map (homed_in_primary n) c.tables })) (sym h)

-- What follows where a result is Ok.
pub on_ok : {A E X : Type 0} (r : Result A E) (x y z : X) → OnOk r (x ≡ y) → y ≡ z → OnOk r (x ≡ z)
on_ok (Ok a) x y z h e = h ∙ e
on_ok (Err a) x y z h e = tt
