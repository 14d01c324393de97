-- What follows from the span that is asked next, and from tests on lists.
use Rattle.std.proofs.Common.{◌≡◌, ◌==◌, Bool, true, false, not, cond, ◌&&◌, List, [], ◌∷◌, ◌++◌, length, map, refl, ap, subst, ◌⊎◌, inl, inr}
use Rattle.std.proofs.lemmas.List.{length-map}
use Rattle.std.proofs.Math.Dec.{eqb-suc-zero}
use Rattle.std.specs.Prelude.{Option, Some, None, MatchOption}

pub at_none : {A : Type 0} (P : Type 0) (Q : A → Type 0) (o : Option A) → o ≡ None → P → MatchOption o P Q
at_none P Q None e p = p
at_none P Q (Some a) e p = cc

pub at_some : {A : Type 0} (P : Type 0) (Q : A → Type 0) (o : Option A) (a : A) → o ≡ Some a → Q a → MatchOption o P Q
at_some P Q None a e q = cc
at_some P Q (Some b) a e q = let same : a ≡ b = cc in subst Q same q

pub none_is_asked : {A : Type 0} (Q : A → Type 0) (o : Option A) → o ≡ None → MatchOption o ⊥ Q → ⊥
none_is_asked Q None e m = m
none_is_asked Q (Some a) e m = cc

pub asked : {A : Type 0} (Q : A → Type 0) (o : Option A) → MatchOption o ⊥ Q → (a : A) × (o ≡ Some a) × Q a
asked Q None m = absurd m
asked Q (Some a) m = (a, refl, m)

pub asked_at : {A : Type 0} (Q : A → Type 0) (o : Option A) (a : A) → o ≡ Some a → MatchOption o ⊥ Q → Q a
asked_at Q None a e m = absurd m
asked_at Q (Some b) a e m = let same : b ≡ a = cc in subst Q same m

pub match_map : {A : Type 0} (P R : Type 0) (Q S : A → Type 0) (o : Option A) → (P → R) → ((a : A) → Q a → S a) →
    MatchOption o P Q → MatchOption o R S
match_map P R Q S None f g m = f m
match_map P R Q S (Some a) f g m = g a m

pub none_if : {A : Type 0} (b : Bool) (o : Option A) → b ≡ true → cond b None o ≡ None
none_if true o e = refl
none_if false o e = cc

pub same_if : {A : Type 0} (b : Bool) (o : Option A) → b ≡ false → cond b None o ≡ o
same_if true o e = cc
same_if false o e = refl

pub some_from_if : {A : Type 0} (b : Bool) (o : Option A) (a : A) → cond b None o ≡ Some a → o ≡ Some a
some_from_if true o a e = cc
some_from_if false o a e = e

pub none_from_if : {A : Type 0} (b : Bool) (o : Option A) → cond b None o ≡ None → (b ≡ true) ⊎ (o ≡ None)
none_from_if true o e = inl refl
none_from_if false o e = inr e

pub not_both : (b c : Bool) → (b && c) ≡ true → b ≡ false → ⊥
not_both true c e f = cc
not_both false c e f = cc

pub both_second : (b c : Bool) → (b && c) ≡ true → c ≡ true
both_second true c e = e
both_second false c e = cc

-- ---- empty lists

pub cons_is_some : {A : Type 0} (x : A) (xs : List A) → not (length (x ∷ xs) == 0) ≡ true
cons_is_some x xs = ap not (eqb-suc-zero (length xs))

pub some_is_no_nil : {A : Type 0} (xs : List A) → not (length xs == 0) ≡ true → xs ≡ [] → ⊥
some_is_no_nil [] e n = cc
some_is_no_nil (x ∷ xs) e n = cc

-- A search that had no hit has one after these pairs exactly where it stops and there is one among them.
pub hit_after : {A B : Type 0} (f : A → B) (stops : Bool) (found : List B) (xs : List A) →
    (stops && not (length found == 0)) ≡ false →
    (stops && not (length (found ++ map f xs) == 0)) ≡ (stops && not (length xs == 0))
hit_after f false found xs e = refl
hit_after f true [] xs e = ap (λ n. not (n == 0)) (length-map xs f)
hit_after f true (y ∷ ys) xs e = let some : not (length (y ∷ ys) == 0) ≡ true = cons_is_some y ys in cc
