use Rattle.std.proofs.Common.{◌≡◌, ℕ, zero, suc, Bool, true, false, List, [], ◌∷◌, inl, inr, ⊎_elim, refl, sym, ap, ◌∙◌, subst, true≢false, arith}
use Rattle.std.specs.Prelude.{◌⊎◌, ◌<◌, ◌==◌, if◌then◌else◌, length, slice_index_or}
use Rattle.std.proofs.lemmas.Bool.{eqb-true}
use Rattle.mr_base.specs.declared.ids.AttemptId.{AttemptId}
use Rattle.std.specs.List.{Contains}

-- the members of a list with one more in front
pub contains_first : {X : Type 0} (x : X) (xs : List X) → Contains (x ∷ xs) x
contains_first x xs = (0, omega arith, refl)

pub contains_later : {X : Type 0} (x y : X) (xs : List X) → Contains xs y → Contains (x ∷ xs) y
contains_later x y xs h = (suc h.0, omega arith, h.2)

contains_cases_at : {X : Type 0} (x y : X) (xs : List X) (k : ℕ) → k < length (x ∷ xs) → slice_index_or (x ∷ xs) k y ≡ y → (x ≡ y) ⊎ Contains xs y
contains_cases_at x y xs zero l e = inl e
contains_cases_at x y xs (suc k) l e = inr (k, omega arith, e)

pub contains_cases : {X : Type 0} (x y : X) (xs : List X) → Contains (x ∷ xs) y → (x ≡ y) ⊎ Contains xs y
contains_cases x y xs h = contains_cases_at x y xs h.0 h.1 h.2

pub contains_none : {X : Type 0} (y : X) → Contains {X = X} [] y → ⊥
contains_none y h = omega (arith, h.1)

abbrev number : ℕ → AttemptId
number k = record { 0 = k }

same_attempt : (b a : AttemptId) → (b.0 == a.0) ≡ true → b ≡ a
same_attempt b a e = ap number (eqb-true b.0 a.0 e)

pub itself : (k : ℕ) → (k == k) ≡ true
itself k = grind arith

test_of_same : (b a : AttemptId) → b ≡ a → (b.0 == a.0) ≡ true
test_of_same b a e = subst (λ (c : AttemptId). (b.0 == c.0) ≡ true) e (itself b.0)

-- a list that has one more in front where the attempts are the same
pub picked_cases : {X : Type 0} (t : Bool) (b a : AttemptId) (new y : X) (old : List X) → t ≡ (b.0 == a.0)
    → Contains (if t then new ∷ old else old) y → ((b ≡ a) × (y ≡ new)) ⊎ Contains old y
picked_cases true b a new y old e c = ⊎_elim (λ same. inl (same_attempt b a (sym e), sym same)) (λ q. inr q) (contains_cases new y old c)
picked_cases false b a new y old e c = inr c

pub picked_in : {X : Type 0} (t : Bool) (b a : AttemptId) (new y : X) (old : List X) → t ≡ (b.0 == a.0)
    → ((b ≡ a) × (y ≡ new)) ⊎ Contains old y → Contains (if t then new ∷ old else old) y
picked_in {X} true b a new y old e (inl q) = subst (λ (z : X). Contains (new ∷ old) z) (sym q.1) (contains_first new old)
picked_in true b a new y old e (inr c) = contains_later new y old c
picked_in false b a new y old e (inl q) = absurd (true≢false (sym (test_of_same b a q.0) ∙ sym e))
picked_in false b a new y old e (inr c) = c
