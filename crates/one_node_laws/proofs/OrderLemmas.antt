use Rattle.std.proofs.Common.{◌≡◌, ℕ, Bool, true, false, cond, List, [], ◌∷◌, ◌<◌, ◌≤◌, inl, inr, refl, sym, ap, ◌∙◌, subst, arith, true≢false}
use Rattle.std.specs.Prelude.{◌⊎◌, nat_lt, ◌==◌, ◌||◌, ◌&&◌}
use Rattle.std.proofs.lemmas.Bool.Decides.{nat_tests}
use Rattle.mr_base.specs.Timestamps.{IsBelow, ts_lt}
use Rattle.mr_base.specs.declared.timestamps.Reading.{Reading}
use Rattle.mr_base.specs.declared.timestamps.Ts.{Ts}
use Rattle.one_node_laws.specs.Decided.{Decided, IsAmong, AreBelow, those_below}
use Rattle.one_node_laws.specs.Words.{later_reading}

-- the order of timestamps
pub not_itself : (a : Ts) → ¬ IsBelow a a
not_itself a h = grind (arith, h)

pub below_trans : (a b c : Ts) → IsBelow a b → IsBelow b c → IsBelow a c
below_trans a b c p q = grind (arith, p, q)

pub not_both : (a b : Ts) → IsBelow a b → ¬ IsBelow b a
not_both a b p q = grind (arith, p, q)

pub test_below : (a b : Ts) → IsBelow a b → ts_lt a b ≡ true
test_below a b h = grind (arith, nat_tests, h)

pub test_not_below : (a b : Ts) → ¬ IsBelow a b → ts_lt a b ≡ false
test_not_below a b h = grind (arith, nat_tests, h)

pub tested_below : (a b : Ts) → ts_lt a b ≡ true → IsBelow a b
tested_below a b h = grind (arith, nat_tests, h)

by_test : (a b : Ts) (t : Bool) → ts_lt a b ≡ t → IsBelow a b ⊎ (¬ IsBelow a b)
by_test a b true e = inl (tested_below a b e)
by_test a b false e = inr (λ h. true≢false (sym (test_below a b h) ∙ e))

-- one timestamp is below another or isn't
pub below_or_not : (a b : Ts) → IsBelow a b ⊎ (¬ IsBelow a b)
below_or_not a b = by_test a b (ts_lt a b) refl

-- a timestamp isn't ahead of a reading
abbrev pub IsPast : Reading → Ts → Type 0
IsPast r ts = (ts.wall < r.wall) ⊎ ((ts.wall ≡ r.wall) × (ts.logical ≤ r.logical))

-- a reading is ahead of another
abbrev pub IsAheadOf : Reading → Reading → Type 0
IsAheadOf r n = (r.wall < n.wall) ⊎ ((r.wall ≡ n.wall) × (r.logical < n.logical))

pub past_below : (r : Reading) (ts start : Ts) → IsPast r ts → IsAheadOf r (record { wall = start.wall; logical = start.logical }) → IsBelow ts start
past_below r ts start p q = grind (arith, p, q)

pub past_next : (r n : Reading) (ts : Ts) → IsPast r ts → IsAheadOf r n → IsPast n ts
past_next r n ts p q = grind (arith, p, q)

abbrev pub ArePast : Reading → List Decided → Type 0
ArePast r [] = Unit {0}
ArePast r (d ∷ ds) = IsPast r d.ts × ArePast r ds

pub past_among : (r : Reading) (ds : List Decided) (d : Decided) → ArePast r ds → IsAmong d ds → IsPast r d.ts
past_among r [] d h i = absurd i
past_among r (e ∷ es) d h (inl q) = subst (λ (y : Decided). IsPast r y.ts) q h.0
past_among r (e ∷ es) d h (inr i) = past_among r es d h.1 i

pub past_more : (r n : Reading) (ds : List Decided) → IsAheadOf r n → ArePast r ds → ArePast n ds
past_more r n [] q h = tt
past_more r n (e ∷ es) q h = (past_next r n e.ts h.0 q, past_more r n es q h.1)

-- all of a list is below a timestamp, or isn't
pub all_below : (ts : Ts) (ds : List Decided) → AreBelow ts ds → those_below ts ds ≡ ds
all_below ts [] h = refl
all_below ts (d ∷ ds) h = rw (test_below d.ts ts h.0, all_below ts ds h.1) refl

pub below_all : (r : Reading) (start : Ts) (ds : List Decided) → IsAheadOf r (record { wall = start.wall; logical = start.logical }) → ArePast r ds → AreBelow start ds
below_all r start [] q h = tt
below_all r start (d ∷ ds) q h = (past_below r d.ts start h.0 q, below_all r start ds q h.1)

pub below_more : (a b : Ts) (ds : List Decided) → IsBelow a b → AreBelow a ds → AreBelow b ds
below_more a b [] p h = tt
below_more a b (d ∷ ds) p h = (below_trans d.ts a b h.0 p, below_more a b ds p h.1)

-- the head of a list counts where it is below
pub head_below : (ts : Ts) (d : Decided) (ds : List Decided) → IsBelow d.ts ts → those_below ts (d ∷ ds) ≡ d ∷ those_below ts ds
head_below ts d ds h = ap (λ (t : Bool). cond t (d ∷ those_below ts ds) (those_below ts ds)) (test_below d.ts ts h)

pub head_not_below : (ts : Ts) (d : Decided) (ds : List Decided) → ¬ IsBelow d.ts ts → those_below ts (d ∷ ds) ≡ those_below ts ds
head_not_below ts d ds h = ap (λ (t : Bool). cond t (d ∷ those_below ts ds) (those_below ts ds)) (test_not_below d.ts ts h)

-- numbers that differ are told apart
pub told_apart : (m n : ℕ) → m < n → (m == n) ≡ false
told_apart m n h = grind (arith, nat_tests, h)

is_ahead : (r n : Reading) → IsAheadOf r n → (nat_lt r.wall n.wall || ((r.wall == n.wall) && nat_lt r.logical n.logical)) ≡ true
is_ahead r n h = grind (arith, nat_tests, h)

-- the later of two readings
pub later_ahead : (r n : Reading) → IsAheadOf r n → later_reading r n ≡ n
later_ahead r n h = ap (λ (t : Bool). cond t n r) (is_ahead r n h)

pub all_are_below : (ts : Ts) (ds : List Decided) → ((d : Decided) → IsAmong d ds → IsBelow d.ts ts) → AreBelow ts ds
all_are_below ts [] f = tt
all_are_below ts (d ∷ ds) f = (f d (inl refl), all_are_below ts ds (λ e h. f e (inr h)))
