use Rattle.std.specs.Prelude.{ℕ, ◌+◌, ◌-◌, Bool, true, false}
use Rattle.mr_base.specs.declared.timestamps.Ts.{Ts}
use Rattle.mr_base.specs.declared.timestamps.Reading.{Reading}
use Rattle.mr_base.specs.declared.settings.Settings.{Settings}

-- A timestamp of this wall that no attempt owns.
abbrev pub at_wall : ℕ → Ts
at_wall wall = record { wall = wall; logical = 0; owner = 0 }

-- The timestamp up to which a leaseholder may close: an ordinary range trails its clock by the lag, not
-- below 0, and a global range leads it. (VanBenschoten et al., SIGMOD 2022, on closed timestamps and on
-- global tables; the amounts are settings of this project's profile.)
abbrev pub close_target : (is_global : Bool) → Reading → Settings → Ts
close_target false clock settings = at_wall (clock.wall - settings.lag)
close_target true clock settings = at_wall (clock.wall + settings.lead)
