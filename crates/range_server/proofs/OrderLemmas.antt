-- The order of timestamps.
use Rattle.std.proofs.Common.{◌≡◌, ◌<◌, ◌≤◌, ◌⊎◌, Bool, true, false, cond, inl, inr, arith, refl, subst, sym}
use Rattle.std.proofs.lemmas.Bool.Decides.{nat_tests}
use Rattle.mr_base.specs.Timestamps.{IsBelow, later, ts_lt}
use Rattle.mr_base.specs.declared.timestamps.Ts.{Ts}

-- a timestamp is another or below it
abbrev pub IsUpTo : Ts → Ts → Type 0
IsUpTo a b = (a.wall < b.wall) ⊎ ((a.wall ≡ b.wall) × ((a.logical < b.logical) ⊎ ((a.logical ≡ b.logical) × (a.owner ≤ b.owner))))

pub up_to_itself : (a : Ts) → IsUpTo a a
up_to_itself a = inr (refl, inr (refl, omega arith))

pub up_to_trans : (a b c : Ts) → IsUpTo a b → IsUpTo b c → IsUpTo a c
up_to_trans a b c h k = grind arith

pub up_to_not_below : (a b : Ts) → IsUpTo a b → ¬ IsBelow b a
up_to_not_below a b h k = grind arith

pub lt_true : (a b : Ts) → ts_lt a b ≡ true → IsBelow a b
lt_true a b h = grind (arith, nat_tests)

lt_up_to : (a b : Ts) → ts_lt a b ≡ true → IsUpTo a b
lt_up_to a b h = grind (arith, nat_tests)

pub ge_up_to : (a b : Ts) → ts_lt a b ≡ false → IsUpTo b a
ge_up_to a b h = grind (arith, nat_tests)

pub by_test : (b : Bool) → (b ≡ true) ⊎ (b ≡ false)
by_test true = inl refl
by_test false = inr refl

pub not_below_up_to : (a b : Ts) → ¬ IsBelow b a → IsUpTo a b
not_below_up_to a b h = elim (by_test (ts_lt b a)) [ inl t ↦ absurd (h (lt_true b a t)) | inr t ↦ ge_up_to b a t ]

pub later_when : (a b : Ts) → ((ts_lt a b ≡ true) × (later a b ≡ b)) ⊎ ((ts_lt a b ≡ false) × (later a b ≡ a))
later_when a b = when (ts_lt a b)
  where
    when : (t : Bool) → ((t ≡ true) × (cond t b a ≡ b)) ⊎ ((t ≡ false) × (cond t b a ≡ a))
    when true = inl (refl, refl)
    when false = inr (refl, refl)

pub later_left : (a b : Ts) → IsUpTo a (later a b)
later_left a b = elim (later_when a b) as (λ _. IsUpTo a (later a b)) [ inl h ↦ rw h.1 (lt_up_to a b h.0) | inr h ↦ rw h.1 (up_to_itself a) ]

pub later_right : (a b : Ts) → IsUpTo b (later a b)
later_right a b = elim (later_when a b) as (λ _. IsUpTo b (later a b)) [ inl h ↦ rw h.1 (up_to_itself b) | inr h ↦ rw h.1 (ge_up_to a b h.0) ]

-- the greater of two is one of them
pub later_one : (P : Ts → Type 0) (a b : Ts) → P a → P b → P (later a b)
later_one P a b x y = elim (later_when a b) as (λ _. P (later a b)) [ inl t ↦ subst P (sym t.1) y | inr t ↦ subst P (sym t.1) x ]
