use Rattle.std.specs.Prelude.{◌≡◌, ℕ, List, Some}
use Rattle.mr_base.specs.declared.ids.NodeId.{NodeId}
use Rattle.range_log.specs.Facts.{lease_of}
use Rattle.range_log.specs.declared.entries.Entry.{Entry}
use Rattle.range_log.specs.declared.entries.Lease.{Lease}

-- Who holds a range. (Leases: Taft et al., SIGMOD 2020; that a lease is of one boot is this project's profile.)

-- A lease names a node at a boot.
abbrev pub Names : Lease → NodeId → ℕ → Type 0
Names lease node boot = (lease.holder ≡ node) × (lease.boot ≡ boot)

-- A node at a boot holds a range: the last lease of the entries that it has applied names it, and is the last
-- of the whole log.
pub record IsHolder (applied entries : List Entry) (node : NodeId) (boot : ℕ) (lease : Lease) : Type 0 where
  pub has : lease_of applied ≡ Some lease
  pub last : lease_of entries ≡ Some lease
  pub names : Names lease node boot
