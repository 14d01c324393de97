use Rattle.std.specs.Prelude.{ℕ, ◌+◌, nat_lt, if◌then◌else◌}
use Rattle.mr_base.specs.declared.timestamps.Reading.{Reading}

-- What a clock shows: its physical part where that is ahead of what it gave before. (Taft et al., SIGMOD
-- 2020, in this project's profile.)
abbrev pub reading_of : ℕ → Reading → Reading
reading_of physical kept = if nat_lt kept.wall physical then record { wall = physical; logical = 0 } else kept

-- The next reading: the physical part where that is ahead of what it gave before, else the next logical
-- part.
abbrev pub next_of : ℕ → Reading → Reading
next_of physical kept =
    if nat_lt kept.wall physical then record { wall = physical; logical = 0 } else record { wall = kept.wall; logical = kept.logical + 1 }
