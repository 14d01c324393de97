-- What follows where tests find no fault.
use Rattle.std.proofs.Common.{◌≡◌, Bool, true, false, not, ◌&&◌, ◌||◌, List, [], ◌∷◌, map, refl, sym}
use Rattle.std.specs.Prelude.{if◌then◌else◌, Option, Some, None, Result, Ok}
use Rattle.std.specs.List.{AllByRecursion, list_all}
use Rattle.std.specs.Option.{option_or}
use Rattle.std.proofs.lemmas.Option.{none-some}
use Rattle.mr_base.specs.declared.states.SqlState.{SqlState}
use Rattle.sql_eval.specs.Faults.{first_fault}

-- ---- truth values

pub not_false : (b : Bool) → not b ≡ false → b ≡ true
not_false true e = refl
not_false false e = absurd (cc)

pub then_true : (a b : Bool) → (a && not b) ≡ false → a ≡ true → b ≡ true
then_true true b h e = not_false b h
then_true false b h e = absurd (cc)

pub unless_true : (a b : Bool) → (not a || b) ≡ true → a ≡ true → b ≡ true
unless_true true b h e = h
unless_true false b h e = absurd (cc)

pub both_true : (a b : Bool) → (a && b) ≡ true → (a ≡ true) × (b ≡ true)
both_true true b h = (refl, h)
both_true false b h = absurd (cc)

pub every : {X : Type 0} (test : X → Bool) (xs : List X) → list_all test xs ≡ true → AllByRecursion (λ x. test x ≡ true) xs
every test [] e = tt
every test (x ∷ xs) e = ((both_true (test x) (list_all test xs) e).0, every test xs (both_true (test x) (list_all test xs) e).1)

-- ---- faults

pub passed : (b : Bool) (e : SqlState) (o : Option SqlState) → (if b then Some e else o) ≡ None → (b ≡ false) × (o ≡ None)
passed true e o h = absurd (none-some e (sym h))
passed false e o h = (refl, h)

pub allowed : (b : Bool) (e : SqlState) → (if b then None else Some e) ≡ None → b ≡ true
allowed true e h = refl
allowed false e h = absurd (none-some e (sym h))

pub first_none : {A : Type 0} (o p : Option A) → option_or o p ≡ None → (o ≡ None) × (p ≡ None)
first_none None p e = (refl, e)
first_none (Some x) p e = absurd (none-some x (sym e))

pub none_faulty : {X : Type 0} (fault : X → Option SqlState) (xs : List X) → first_fault (map fault xs) ≡ None → AllByRecursion (λ x. fault x ≡ None) xs
none_faulty fault [] e = tt
none_faulty fault (x ∷ xs) e =
    ((first_none (fault x) (first_fault (map fault xs)) e).0, none_faulty fault xs (first_none (fault x) (first_fault (map fault xs)) e).1)

pub same_ok : {A : Type 0} (x y : A) → ◌≡◌ {A = Result A SqlState} (Ok x) (Ok y) → x ≡ y
same_ok x y e = cc
