use Rattle.std.specs.Prelude.{◌≡◌, ⊤, List, ◌∷◌, Option, Some, None, Result, Ok, Err}
use Rattle.mr_base.specs.Timestamps.{IsBelow}
use Rattle.mr_base.specs.declared.timestamps.Ts.{Ts}
use Rattle.closed_ts.specs.Targets.{close_target}
use Rattle.range_log.specs.Facts.{closed_of}
use Rattle.range_log.specs.declared.entries.Entry.{Entry}
use Rattle.range_log.specs.declared.entries.Entry.TheVariants as log
use Rattle.range_log.specs.declared.entries.Lease.{Lease}
use Rattle.range_rules.specs.Closing.{IsClosing}
use Rattle.range_server.specs.Leases.{HasQuorum, LacksQuorum}
use Rattle.range_server.specs.Scene.{Holds, Scene}
use Rattle.range_server.specs.declared.leases.LeaseRefusal.{LeaseRefusal}
use Rattle.range_server.specs.declared.leases.LeaseRefusal.TheVariants as refusals

-- What is answered where a timestamp is closed, and what the log's entries are then. (VanBenschoten et al., SIGMOD
-- 2022; the refusals and their order are this project's profile.)

-- The holder closes its target, where that is above what was closed before.
pub record HasClosed (sc : Scene) (ts : Ts) (after : List Entry) : Type 0 where
  pub lease : Lease
  pub holds : Holds sc lease
  pub quorum : HasQuorum sc
  pub closing : IsClosing sc.log.entries sc.server.is_global sc.now.clock sc.now.settings ts
  pub appended : after ≡ log.Close ts ∷ sc.log.entries

-- Only the holder closes, and nothing is done where the target isn't above what was closed.
abbrev pub Closes : Scene → Result (Option Ts) LeaseRefusal → (after : List Entry) → Type 0
Closes sc (Ok (Some ts)) after = HasClosed sc ts after
Closes sc (Ok None) after =
    ((lease : Lease) × Holds sc lease) × HasQuorum sc
    × (¬ IsBelow (closed_of sc.log.entries) (close_target sc.server.is_global sc.now.clock sc.now.settings))
    × (after ≡ sc.log.entries)
Closes sc (Err refusals.NotHolder) after = ((lease : Lease) → ¬ Holds sc lease) × (after ≡ sc.log.entries)
Closes sc (Err (refusals.NoQuorum down)) after =
    ((lease : Lease) × Holds sc lease) × LacksQuorum sc down × (after ≡ sc.log.entries)
Closes sc (Err refusals.NotVoter) after = ⊥
Closes sc (Err (refusals.Live expiration)) after = ⊥
Closes sc (Err refusals.Memory) after = ⊤
