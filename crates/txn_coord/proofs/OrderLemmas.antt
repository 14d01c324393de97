use Rattle.std.proofs.Common.{◌≡◌, Bool, true, false, List, [], ◌∷◌, refl, arith, cond, rules, subst}
use Rattle.std.proofs.lemmas.Bool.Decides.{nat_tests}
use Rattle.mr_base.specs.Timestamps.{IsBelow, later, ts_lt}
use Rattle.mr_base.specs.declared.timestamps.Ts.{Ts}
use Rattle.txn_coord.specs.Machine.{greatest}

-- The test says whether one is below.
pub tested_below : (a b : Ts) → ts_lt a b ≡ true → IsBelow a b
tested_below a b t = grind (arith, nat_tests, rules)

tested_not_below : (a b : Ts) → ts_lt a b ≡ false → ¬ IsBelow a b
tested_not_below a b t below = grind (arith, nat_tests, rules)

-- What is above something not below a third isn't below that either.
not_below_through : (a b c : Ts) → ¬ IsBelow a b → ¬ IsBelow b c → ¬ IsBelow a c
not_below_through a b c p q below = grind arith

-- Two of which neither is below the other are one.
same_if_neither : (a b : Ts) → ¬ IsBelow a b → ¬ IsBelow b a → a ≡ b
same_if_neither a b p q = grind arith

-- The later of two isn't below the first.
not_below_later : (a b : Ts) (t : Bool) → ts_lt a b ≡ t → ¬ IsBelow (cond t b a) a
not_below_later a b true e below = let over = tested_below a b e in grind arith
not_below_later a b false e below = grind arith

-- The greatest isn't below the read timestamp.
not_below_greatest : (read : Ts) (laid : List Ts) → ¬ IsBelow (greatest read laid) read
not_below_greatest read [] below = grind arith
not_below_greatest read (x ∷ xs) below =
    not_below_through (greatest (later read x) xs) (later read x) read (not_below_greatest (later read x) xs) (not_below_later read x (ts_lt read x) refl) below

-- Where no put is above the read timestamp, the greatest of them is the read timestamp.
pub at_read : (read : Ts) (laid : List Ts) (at : Ts) → at ≡ greatest read laid → ts_lt read at ≡ false → at ≡ read
at_read read laid at e t =
    let reached : ¬ IsBelow at read = λ below. not_below_greatest read laid (subst (λ (x : Ts). IsBelow x read) e below) in
    same_if_neither at read reached (tested_not_below read at t)
