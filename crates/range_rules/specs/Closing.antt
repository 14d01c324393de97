use Rattle.std.specs.Prelude.{◌≡◌, Bool, List}
use Rattle.mr_base.specs.Timestamps.{IsBelow}
use Rattle.mr_base.specs.declared.settings.Settings.{Settings}
use Rattle.mr_base.specs.declared.timestamps.Reading.{Reading}
use Rattle.mr_base.specs.declared.timestamps.Ts.{Ts}
use Rattle.closed_ts.specs.Targets.{close_target}
use Rattle.range_log.specs.Facts.{closed_of}
use Rattle.range_log.specs.declared.entries.Entry.{Entry}

-- A timestamp is closed: the target of the holder's clock, where that is above what was closed before.
-- (VanBenschoten et al., SIGMOD 2022, on closed timestamps.)
pub record IsClosing (before : List Entry) (is_global : Bool) (clock : Reading) (settings : Settings) (ts : Ts) : Type 0 where
  pub target : ts ≡ close_target is_global clock settings
  pub above : IsBelow (closed_of before) ts
