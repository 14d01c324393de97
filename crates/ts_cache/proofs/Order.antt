-- The order of timestamps, and the greatest of several.
use Rattle.std.proofs.Common.{◌≡◌, ◌<◌, ◌≤◌, ◌⊎◌, Bool, true, false, cond, List, [], ◌∷◌, fold, inl, inr, arith, refl}
use Rattle.std.proofs.lemmas.Bool.Decides.{nat_tests}
use Rattle.mr_base.specs.Timestamps.{IsBelow, later, ts_lt}
use Rattle.mr_base.specs.declared.timestamps.Ts.{Ts}

-- a timestamp is another or below it
abbrev pub IsUpTo : Ts → Ts → Type 0
IsUpTo a b = (a.wall < b.wall) ⊎ ((a.wall ≡ b.wall) × ((a.logical < b.logical) ⊎ ((a.logical ≡ b.logical) × (a.owner ≤ b.owner))))

pub up_to_itself : (a : Ts) → IsUpTo a a
up_to_itself a = inr (refl, inr (refl, omega arith))

pub up_to_trans : (a b c : Ts) → IsUpTo a b → IsUpTo b c → IsUpTo a c
up_to_trans a b c h k = grind arith

pub up_to_not_below : (a b : Ts) → IsUpTo a b → ¬ IsBelow b a
up_to_not_below a b h k = grind arith

same_parts : (a b : Ts) → a.wall ≡ b.wall → a.logical ≡ b.logical → a.owner ≡ b.owner → a ≡ b
same_parts a b w l o = λ i. record { wall = w i; logical = l i; owner = o i }

pub up_to_antisymm : (a b : Ts) → IsUpTo a b → IsUpTo b a → a ≡ b
up_to_antisymm a b h k = same_parts a b (grind arith) (grind arith) (grind arith)

lt_up_to : (a b : Ts) → ts_lt a b ≡ true → IsUpTo a b
lt_up_to a b h = grind (arith, nat_tests)

ge_up_to : (a b : Ts) → ts_lt a b ≡ false → IsUpTo b a
ge_up_to a b h = grind (arith, nat_tests)

by_test : (b : Bool) → (b ≡ true) ⊎ (b ≡ false)
by_test true = inl refl
by_test false = inr refl

pub later_when : (a b : Ts) → ((ts_lt a b ≡ true) × (later a b ≡ b)) ⊎ ((ts_lt a b ≡ false) × (later a b ≡ a))
later_when a b = when (ts_lt a b)
  where
    when : (t : Bool) → ((t ≡ true) × (cond t b a ≡ b)) ⊎ ((t ≡ false) × (cond t b a ≡ a))
    when true = inl (refl, refl)
    when false = inr (refl, refl)

pub later_left : (a b : Ts) → IsUpTo a (later a b)
later_left a b = elim (later_when a b) as (λ _. IsUpTo a (later a b)) [ inl h ↦ rw h.1 (lt_up_to a b h.0) | inr h ↦ rw h.1 (up_to_itself a) ]

pub later_right : (a b : Ts) → IsUpTo b (later a b)
later_right a b = elim (later_when a b) as (λ _. IsUpTo b (later a b)) [ inl h ↦ rw h.1 (up_to_itself b) | inr h ↦ rw h.1 (ge_up_to a b h.0) ]

pub later_least : (a b r : Ts) → IsUpTo a r → IsUpTo b r → IsUpTo (later a b) r
later_least a b r h k = elim (later_when a b) as (λ _. IsUpTo (later a b) r) [ inl t ↦ rw t.1 k | inr t ↦ rw t.1 h ]

-- x is one of a list
abbrev pub Has : {X : Type 0} → X → List X → Type 0
Has x [] = ⊥
Has x (y ∷ ys) = (x ≡ y) ⊎ Has x ys

module _ {X : Type 0} (f : X → Ts) where
  -- the greatest of a timestamp and those of a list
  abbrev pub greatest_by : Ts → List X → Ts
  greatest_by low xs = fold (λ t x. later t (f x)) low xs

  pub greatest_low : (low : Ts) (xs : List X) → IsUpTo low (greatest_by low xs)
  greatest_low low [] = up_to_itself low
  greatest_low low (x ∷ xs) = up_to_trans low (later low (f x)) (greatest_by (later low (f x)) xs) (later_left low (f x)) (greatest_low (later low (f x)) xs)

  pub greatest_each : (low : Ts) (xs : List X) (x : X) → Has x xs → IsUpTo (f x) (greatest_by low xs)
  greatest_each low [] x h = absurd h
  greatest_each low (y ∷ ys) x (inl e) =
      rw e (up_to_trans (f y) (later low (f y)) (greatest_by (later low (f y)) ys) (later_right low (f y)) (greatest_low (later low (f y)) ys))
  greatest_each low (y ∷ ys) x (inr h) = greatest_each (later low (f y)) ys x h

  pub greatest_least : (low : Ts) (xs : List X) (r : Ts) → IsUpTo low r → ((x : X) → Has x xs → IsUpTo (f x) r) → IsUpTo (greatest_by low xs) r
  greatest_least low [] r l h = l
  greatest_least low (x ∷ xs) r l h = greatest_least (later low (f x)) xs r (later_least low (f x) r l (h x (inl refl))) (λ y k. h y (inr k))
