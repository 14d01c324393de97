use Rattle.std.specs.Prelude.{ℕ, ◌+◌, if◌then◌else◌}
use Rattle.mr_base.specs.Timestamps.{ts_lt}
use Rattle.mr_base.specs.declared.timestamps.Ts.{Ts}

-- Where a put is laid that asks for a timestamp: there, or else directly above what stands in its way.
-- (This project's profile.)
abbrev pub laid : Ts → Ts → ℕ → Ts
laid asked floor owner = if ts_lt asked floor then record { wall = floor.wall; logical = floor.logical + 1; owner = owner } else asked
