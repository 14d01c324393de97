use Rattle.std.specs.Prelude.{◌≡◌, ℕ, ◌+◌, ◌<◌, ◌⊎◌, Bool, nat_lt, ◌==◌, ◌&&◌, ◌||◌, if◌then◌else◌}
use Rattle.mr_base.specs.declared.timestamps.Reading.{Reading}

-- A reading is earlier than another by its wall, then by its logical part.
abbrev pub IsEarlier : Reading → Reading → Type 0
IsEarlier a b = (a.wall < b.wall) ⊎ ((a.wall ≡ b.wall) × (a.logical < b.logical))

-- The same as a test.
abbrev pub reading_lt : Reading → Reading → Bool
reading_lt a b = nat_lt a.wall b.wall || (a.wall == b.wall && nat_lt a.logical b.logical)

-- The greater of two readings.
abbrev pub greater : Reading → Reading → Reading
greater a b = if reading_lt a b then b else a

-- What a clock keeps that gave no reading yet.
abbrev pub nothing : Reading
nothing = record { wall = 0; logical = 0 }

-- What a clock shows: its physical part where that is ahead of what is kept. (Taft et al., SIGMOD 2020, in
-- this project's profile.)
abbrev pub reading_of : ℕ → Reading → Reading
reading_of physical kept = if nat_lt kept.wall physical then record { wall = physical; logical = 0 } else kept

-- The next reading: the physical part where that is ahead of what is kept, else the next logical part.
abbrev pub next_of : ℕ → Reading → Reading
next_of physical kept =
    if nat_lt kept.wall physical
    then record { wall = physical; logical = 0 }
    else record { wall = kept.wall; logical = kept.logical + 1 }
