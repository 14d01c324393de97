use Rattle.std.specs.Prelude.{◌≡◌, ◌⊎◌, ℕ, ◌<◌, ◌≤◌, ◌^◌}
use Rattle.mr_base.specs.declared.settings.Settings.{Settings}
use Rattle.mr_base.specs.declared.timestamps.Reading.{Reading}
use Rattle.mr_base.specs.declared.timestamps.Ts.{Ts}

-- A timestamp isn't ahead of a reading, and its logical part is small.
pub record IsBehind (kept : Reading) (count : ℕ) (ts : Ts) : Type 0 where
  pub wall : ts.wall ≤ kept.wall
  pub logical : ts.wall ≡ kept.wall → ts.logical ≤ kept.logical
  pub small : ts.logical ≤ count

-- A start is ahead of what the clock gave before.
abbrev pub IsAhead : Reading → Ts → Type 0
IsAhead kept start = (kept.wall < start.wall) ⊎ ((kept.wall ≡ start.wall) × (kept.logical < start.logical))

-- Durations are at most an hour.
pub record AreSettings (s : Settings) : Type 0 where
  pub max_offset : s.max_offset ≤ 3600000
  pub lease : s.lease ≤ 3600000
  pub lag : s.lag ≤ 3600000
  pub lead : s.lead ≤ 3600000
  pub expire : s.expire ≤ 3600000

-- What is true of a cluster's settings and clock at all times.
pub record IsSound (s : Settings) (physical : ℕ) (k : Reading) (count : ℕ) : Type 0 where
  pub durations : AreSettings s
  pub clock : physical < 2 ^ 53
  pub kept : k.wall ≤ physical
  pub logical : k.logical ≤ count
  pub attempts : count < 2 ^ 32
