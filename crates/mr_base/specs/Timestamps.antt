use Rattle.std.specs.Prelude.{◌≡◌, ℕ, ◌<◌, ◌⊎◌, Bool, List, ◌++◌, nat_lt, ◌==◌, ◌&&◌, ◌||◌, if◌then◌else◌, codes}
use Rattle.std.specs.Fmt.{decimal}
use Rattle.mr_base.specs.declared.timestamps.Ts.{Ts}
use Rattle.mr_base.specs.declared.timestamps.Reading.{Reading}

-- A timestamp is below another by wall, then logical part, then owner. (This project's profile.)
abbrev pub IsBelow : Ts → Ts → Type 0
IsBelow a b = (a.wall < b.wall) ⊎ ((a.wall ≡ b.wall) × ((a.logical < b.logical) ⊎ ((a.logical ≡ b.logical) × (a.owner < b.owner))))

-- The same as a test.
abbrev pub ts_lt : Ts → Ts → Bool
ts_lt a b = nat_lt a.wall b.wall || (a.wall == b.wall && (nat_lt a.logical b.logical || (a.logical == b.logical && nat_lt a.owner b.owner)))

-- The greater of two timestamps.
abbrev pub later : Ts → Ts → Ts
later a b = if ts_lt a b then b else a

-- What a clock that shows this reading gives to an owner.
abbrev pub of_reading : Reading → ℕ → Ts
of_reading r owner = record { wall = r.wall; logical = r.logical; owner = owner }

-- wall.logical.owner, in decimal.
abbrev pub ts_text : Ts → List ℕ
ts_text t = decimal t.wall ++ codes "." ++ decimal t.logical ++ codes "." ++ decimal t.owner

abbrev pub IsIrreflexive : Type 0
IsIrreflexive = (a : Ts) → ¬ IsBelow a a

abbrev pub IsTransitive : Type 0
IsTransitive = (a b c : Ts) → IsBelow a b → IsBelow b c → IsBelow a c

abbrev pub IsTotal : Type 0
IsTotal = (a b : Ts) → IsBelow a b ⊎ ((a ≡ b) ⊎ IsBelow b a)

abbrev pub IsLeast : Ts → Type 0
IsLeast a = (b : Ts) → ¬ IsBelow b a
