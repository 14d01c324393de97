use Rattle.std.proofs.Common.{◌≡◌, ℕ, Bool, true, false, inl, inr, refl, sym, ◌∙◌, arith, true≢false}
use Rattle.std.specs.Prelude.{◌⊎◌}
use Rattle.std.proofs.lemmas.Bool.Decides.{nat_tests}
use Rattle.mr_base.specs.Timestamps.{IsBelow, later, ts_lt}
use Rattle.mr_base.specs.declared.timestamps.Ts.{Ts}

-- the order of timestamps
pub not_itself : (a : Ts) → ¬ IsBelow a a
not_itself a h = grind (arith, h)

pub below_trans : (a b c : Ts) → IsBelow a b → IsBelow b c → IsBelow a c
below_trans a b c p q = grind (arith, p, q)

pub test_below : (a b : Ts) → IsBelow a b → ts_lt a b ≡ true
test_below a b h = grind (arith, nat_tests, h)

pub tested_below : (a b : Ts) → ts_lt a b ≡ true → IsBelow a b
tested_below a b h = grind (arith, nat_tests, h)

pub tested_not : (a b : Ts) → ts_lt a b ≡ false → ¬ IsBelow a b
tested_not a b e h = true≢false (sym (test_below a b h) ∙ e)

by_test : (a b : Ts) (t : Bool) → ts_lt a b ≡ t → IsBelow a b ⊎ (¬ IsBelow a b)
by_test a b true e = inl (tested_below a b e)
by_test a b false e = inr (tested_not a b e)

-- one timestamp is below another or isn't
pub below_or_not : (a b : Ts) → IsBelow a b ⊎ (¬ IsBelow a b)
below_or_not a b = by_test a b (ts_lt a b) refl

same_walls : (a b : Ts) → ¬ IsBelow a b → ¬ IsBelow b a → a.wall ≡ b.wall
same_walls a b p q = grind (arith, p, q)

same_logicals : (a b : Ts) → ¬ IsBelow a b → ¬ IsBelow b a → a.logical ≡ b.logical
same_logicals a b p q = grind (arith, p, q)

same_owners : (a b : Ts) → ¬ IsBelow a b → ¬ IsBelow b a → a.owner ≡ b.owner
same_owners a b p q = grind (arith, p, q)

-- two timestamps of which none is below the other are the same
pub same_ts : (a b : Ts) → ¬ IsBelow a b → ¬ IsBelow b a → a ≡ b
same_ts a b p q =
    let w : a.wall ≡ b.wall = same_walls a b p q in
    let l : a.logical ≡ b.logical = same_logicals a b p q in
    let o : a.owner ≡ b.owner = same_owners a b p q in
    λ i. record { wall = w i; logical = l i; owner = o i }

total_by : (a b : Ts) → IsBelow a b ⊎ (¬ IsBelow a b) → IsBelow b a ⊎ (¬ IsBelow b a) → IsBelow a b ⊎ ((a ≡ b) ⊎ IsBelow b a)
total_by a b (inl p) q = inl p
total_by a b (inr p) (inl q) = inr (inr q)
total_by a b (inr p) (inr q) = inr (inl (same_ts a b p q))

pub total : (a b : Ts) → IsBelow a b ⊎ ((a ≡ b) ⊎ IsBelow b a)
total a b = total_by a b (below_or_not a b) (below_or_not b a)

below_le_by : (a b c : Ts) → IsBelow a b → ¬ IsBelow c b → IsBelow a c ⊎ ((a ≡ c) ⊎ IsBelow c a) → IsBelow a c
below_le_by a b c p q (inl h) = h
below_le_by a b c p q (inr (inl e)) = absurd (q (rw e at p))
below_le_by a b c p q (inr (inr h)) = absurd (q (below_trans c a b h p))

-- below one that isn't above a third
pub below_le : (a b c : Ts) → IsBelow a b → ¬ IsBelow c b → IsBelow a c
below_le a b c p q = below_le_by a b c p q (total a c)

-- not above one that isn't above a third
pub le_trans : (a b c : Ts) → ¬ IsBelow b a → ¬ IsBelow c b → ¬ IsBelow c a
le_trans a b c p q h = q (below_le c a b h p)

pub later_owner : (a b : Ts) (o : ℕ) → a.owner ≡ o → b.owner ≡ o → (later a b).owner ≡ o
later_owner a b o p q = by (ts_lt a b) refl
  where
    by : (t : Bool) → ts_lt a b ≡ t → (later a b).owner ≡ o
    by true e = rw e q
    by false e = rw e p

pub later_left : (a b : Ts) → ¬ IsBelow (later a b) a
later_left a b = by (ts_lt a b) refl
  where
    by : (t : Bool) → ts_lt a b ≡ t → ¬ IsBelow (later a b) a
    by true e = rw e (λ h. not_itself a (below_trans a b a (tested_below a b e) h))
    by false e = rw e (not_itself a)

pub later_right : (a b : Ts) → ¬ IsBelow (later a b) b
later_right a b = by (ts_lt a b) refl
  where
    by : (t : Bool) → ts_lt a b ≡ t → ¬ IsBelow (later a b) b
    by true e = rw e (not_itself b)
    by false e = rw e (tested_not a b e)
