-- The first place of a list at which a test passes.
use Rattle.std.proofs.Common.{◌≡◌, ℕ, suc, ◌+◌, Bool, true, false, cond, List, [], ◌∷◌, length, refl, sym, ap, ◌∙◌, inl, inr, arith}
use Rattle.std.specs.Prelude.{not, nat_lt, position, slice_get, Option, Some, None}
use Rattle.std.proofs.lemmas.Bool.Decides.{nat_tests}
use Rattle.answer_laws.proofs.Members.{Has}
use Rattle.answer_laws.proofs.MoreMembers.{false_true}

first_place : (n len : ℕ) → cond {A = Option ℕ} (nat_lt 0 (suc len)) (Some 0) None ≡ Some 0
first_place n len = grind (arith, nat_tests)

next_place : (n len i : ℕ) → cond {A = Option ℕ} (nat_lt n len) (Some n) None ≡ Some i → cond {A = Option ℕ} (nat_lt (1 + n) (suc len)) (Some (1 + n)) None ≡ Some (suc i)
next_place n len i e = grind (arith, nat_tests)

at_first : (b : Bool) (n len : ℕ) → b ≡ true → cond {A = Option ℕ} (nat_lt (cond (not b) (1 + n) 0) (suc len)) (Some (cond (not b) (1 + n) 0)) None ≡ Some 0
at_first true n len e = first_place n len
at_first false n len e = absurd (cc)

at_next : (b : Bool) (n len i : ℕ) → b ≡ false → cond {A = Option ℕ} (nat_lt n len) (Some n) None ≡ Some i
    → cond {A = Option ℕ} (nat_lt (cond (not b) (1 + n) 0) (suc len)) (Some (cond (not b) (1 + n) 0)) None ≡ Some (suc i)
at_next true n len i e f = absurd (cc)
at_next false n len i e f = next_place n len i f

pub position_first : {X : Type 0} (test : X → Bool) (x : X) (xs : List X) → test x ≡ true → position test (x ∷ xs) ≡ Some 0
position_first test x xs e = at_first (test x) _ (length xs) e

pub position_next : {X : Type 0} (test : X → Bool) (x : X) (xs : List X) (i : ℕ) → test x ≡ false → position test xs ≡ Some i → position test (x ∷ xs) ≡ Some (suc i)
position_next test x xs i e f = at_next (test x) _ (length xs) i e f

-- where a test passes first
pub record FirstAt {X : Type 0} (test : X → Bool) (xs : List X) : Type 0 where
  pub place : ℕ
  pub item : X
  pub position_is : position test xs ≡ Some place
  pub at : slice_get xs place ≡ Some item
  pub passes : test item ≡ true

at_cases : {X : Type 0} (test : X → Bool) (y : X) (ys : List X) (x : X) (b : Bool) → test y ≡ b → (Has x ys → FirstAt test ys) → Has x (y ∷ ys) → test x ≡ true → FirstAt test (y ∷ ys)
at_cases test y ys x true e f h k = record { place = 0; item = y; position_is = position_first test y ys e; at = refl; passes = e }
at_cases test y ys x false e f (inl q) k = absurd (false_true (sym e ∙ ap test q ∙ k))
at_cases test y ys x false e f (inr h) k =
    let r = f h in
    record { place = suc r.place; item = r.item; position_is = position_next test y ys r.place e r.position_is; at = r.at; passes = r.passes }

-- a test that some member passes does so first at some place
pub first_at : {X : Type 0} (test : X → Bool) (xs : List X) (x : X) → Has x xs → test x ≡ true → FirstAt test xs
first_at test [] x h e = absurd h
first_at test (y ∷ ys) x h e = at_cases test y ys x (test y) refl (λ k. first_at test ys x k e) h e
