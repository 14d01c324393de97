use Rattle.std.specs.Prelude.{◌≡◌, ℕ, ◌<◌, ⊤, Option, Some, None}
use Rattle.mr_base.specs.Timestamps.{IsBelow}
use Rattle.mr_base.specs.declared.ids.NodeId.{NodeId}
use Rattle.mr_base.specs.declared.timestamps.Ts.{Ts}
use Rattle.range_log.specs.declared.entries.Lease.{Lease}

-- The uncertainty limit of a read, where it has one, is below a wall. Reads of the past and refreshes
-- have none. (Taft et al., SIGMOD 2020, on uncertainty intervals.)
abbrev pub IsLimitBelow : Option ℕ → ℕ → Type 0
IsLimitBelow None wall = ⊤
IsLimitBelow (Some limit) wall = limit < wall

-- A node at a boot may serve a read at a timestamp by a lease: the lease names that node and boot, and
-- the read and its limit lie below the lease's end. (Taft et al., SIGMOD 2020, on leaseholders; the test
-- of the limit is this project's profile.)
abbrev pub ServesByLease : Lease → NodeId → ℕ → Ts → Option ℕ → Type 0
ServesByLease lease node boot at limit =
    (lease.holder ≡ node) × (lease.boot ≡ boot) × (at.wall < lease.expiration) × IsLimitBelow limit lease.expiration

-- Any replica may serve a read by a closed timestamp: the read and its limit lie below it. (VanBenschoten
-- et al., SIGMOD 2022, on closed timestamps and follower reads.)
abbrev pub ServesByClosure : Ts → Ts → Option ℕ → Type 0
ServesByClosure closed at limit = IsBelow at closed × IsLimitBelow limit closed.wall
