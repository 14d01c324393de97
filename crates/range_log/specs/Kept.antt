use Rattle.std.specs.Prelude.{◌≡◌, List, Some}
use Rattle.mr_base.specs.declared.timestamps.Ts.{Ts}
use Rattle.range_log.specs.Facts.{closed_of, lease_of}
use Rattle.range_log.specs.declared.entries.Entry.{Entry}
use Rattle.range_log.specs.declared.entries.Lease.{Lease}

-- What is kept beside the entries is theirs. No public clause cites this.
pub record IsKept (entries : List Entry) (lease : Lease) (closed : Ts) : Type 0 where
  pub last : lease_of entries ≡ Some lease
  pub greatest : closed_of entries ≡ closed
