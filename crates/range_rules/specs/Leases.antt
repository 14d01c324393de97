use Rattle.std.specs.Prelude.{◌≡◌, ℕ, ◌+◌, ◌<◌, max}
use Rattle.mr_base.specs.Timestamps.{later}
use Rattle.mr_base.specs.declared.ids.NodeId.{NodeId}
use Rattle.mr_base.specs.declared.timestamps.Ts.{Ts}
use Rattle.closed_ts.specs.Targets.{at_wall}
use Rattle.range_log.specs.declared.entries.Lease.{Lease}

-- What each lease is, after the last one. A wall is what the clock of the one who appends shows, a duration that
-- of leases. (Leases: Taft et al., SIGMOD 2020; the exact rules are this project's profile.)

-- The lease with which a range begins: of its first voter, at that node's boot, from a low water on.
pub record IsFirst (lease : Lease) (holder : NodeId) (boot wall duration : ℕ) (low : Ts) : Type 0 where
  pub seq : lease.seq ≡ 1
  pub holder_is : lease.holder ≡ holder
  pub boot_is : lease.boot ≡ boot
  pub expiration : lease.expiration ≡ wall + duration
  pub low_is : lease.low ≡ low

-- A node takes an expired lease: whatever was read under it lies below its end or below its low water.
pub record IsAcquired (last lease : Lease) (node : NodeId) (boot wall duration : ℕ) : Type 0 where
  pub seq : lease.seq ≡ last.seq + 1
  pub holder_is : lease.holder ≡ node
  pub boot_is : lease.boot ≡ boot
  pub expired : last.expiration < wall
  pub expiration : lease.expiration ≡ wall + duration
  pub low_is : lease.low ≡ later (at_wall last.expiration) last.low

-- The holder gives the lease to a node at its boot. The low water is the holder's to say: no lower than the last
-- lease's, nor than what was read under that.
pub record IsTransferred (last lease : Lease) (node : NodeId) (boot wall duration : ℕ) : Type 0 where
  pub seq : lease.seq ≡ last.seq + 1
  pub holder_is : lease.holder ≡ node
  pub boot_is : lease.boot ≡ boot
  pub expiration : lease.expiration ≡ wall + duration

-- The holder extends the lease, which never ends earlier for that.
pub record IsExtended (last lease : Lease) (wall duration : ℕ) : Type 0 where
  pub seq : lease.seq ≡ last.seq + 1
  pub holder_is : lease.holder ≡ last.holder
  pub boot_is : lease.boot ≡ last.boot
  pub expiration : lease.expiration ≡ max (wall + duration) last.expiration
  pub low_is : lease.low ≡ last.low
