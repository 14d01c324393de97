-- The place of a name among names.
use Rattle.std.proofs.Common.{◌≡◌, ℕ, zero, suc, ◌+◌, ◌<◌, true, false, List, [], ◌∷◌, length, get_or, Some, None, refl, sym, ap, ◌∙◌, arith}
use Rattle.std.specs.Prelude.{Contains, slice_get, bytes_eq, unwrap_or}
use Rattle.std.specs.List.{position_from}
use Rattle.std.proofs.lemmas.Option.{get_or_from_slice_get}
use Rattle.std.proofs.lemmas.Slice.Eq.{bytes_eq-Decides}
use Rattle.scenario.specs.NamePlaces.{place_of}
use Rattle.journal.specs.Names.{name_of}

equal : (xs ys : List ℕ) → bytes_eq xs ys ≡ true → xs ≡ ys
equal xs ys e = (bytes_eq-Decides xs ys).0 e

same : (xs ys : List ℕ) → xs ≡ ys → bytes_eq xs ys ≡ true
same xs ys e = (bytes_eq-Decides xs ys).1 e

-- the place that is found has the name
found_from : (names : List (List ℕ)) (name : List ℕ) (n i : ℕ) → position_from (bytes_eq name) n names ≡ Some i → (k : ℕ) × (i ≡ n + k) × (k < length names) × (slice_get names k ≡ Some name)
found_from [] name n i h = absurd cc
found_from (x ∷ xs) name n i h =
    elim (bytes_eq name x) as (λ b. bytes_eq name x ≡ b → (k : ℕ) × (i ≡ n + k) × (k < length (x ∷ xs)) × (slice_get (x ∷ xs) k ≡ Some name)) [
      | true ↦ λ e.
          let here : Some n ≡ Some i = rw e at h in
          let at : n ≡ i = cc in
          (0, omega arith, omega arith, ap (λ (y : List ℕ). Some y) (sym (equal name x e)))
      | false ↦ λ e.
          let later : position_from (bytes_eq name) (n + 1) xs ≡ Some i = rw e at h in
          let r = found_from xs name (n + 1) i later in
          (suc r.0, omega (arith, r.1), omega (arith, r.2), r.3)
    ] refl

-- where no place is found the name isn't there
none_from : (names : List (List ℕ)) (name : List ℕ) (n : ℕ) → position_from (bytes_eq name) n names ≡ None → (k : ℕ) → k < length names → get_or names k name ≡ name → ⊥
none_from [] name n h k lt e = absurd (omega arith)
none_from (x ∷ xs) name n h zero lt e = let t : bytes_eq name x ≡ true = same name x (sym e) in let f : Some n ≡ None = rw t at h in cc
none_from (x ∷ xs) name n h (suc k) lt e =
    elim (bytes_eq name x) as (λ b. bytes_eq name x ≡ b → ⊥) [
      | true ↦ λ t. let f : Some n ≡ None = rw t at h in cc
      | false ↦ λ t. let later : position_from (bytes_eq name) (n + 1) xs ≡ None = rw t at h in none_from xs name (n + 1) later k (omega arith) e
    ] refl

pub found_place : (names : List (List ℕ)) (name : List ℕ) (i : ℕ) → place_of names name ≡ Some i → (i < length names) × (name_of names (record { 0 = i }) ≡ name)
found_place names name i h =
    let r = found_from names name 0 i h in
    let at : r.0 ≡ i = omega (arith, r.1) in
    let get : slice_get names i ≡ Some name = ap (slice_get names) (sym at) ∙ r.3 in
    (omega (arith, r.1, r.2), ap (λ o. unwrap_or o []) get)

-- a name whose place is found is there
pub is_there : (names : List (List ℕ)) (name : List ℕ) (i : ℕ) → place_of names name ≡ Some i → Contains names name
is_there names name i h = let r = found_from names name 0 i h in (r.0, r.2, get_or_from_slice_get names r.0 name name r.3)

pub no_place : (names : List (List ℕ)) (name : List ℕ) → place_of names name ≡ None → ¬ Contains names name
no_place names name h c = none_from names name 0 h c.0 c.1 c.2
