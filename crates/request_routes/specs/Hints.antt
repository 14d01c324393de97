use Rattle.std.specs.Prelude.{Option, Some, None, if◌then◌else◌, nat_lt}
use Rattle.mr_base.specs.declared.ids.NodeId.{NodeId}
use Rattle.range_log.specs.declared.entries.Lease.{Lease}
use Rattle.request_routes.specs.declared.hints.Hint.{Hint}

-- Where a gateway believes the leaseholder of a range to be. (CockroachDB's documentation of range caches, in this
-- project's profile.)

-- At first the lease is the range's first, and its holder the first voter.
abbrev pub first_hint : NodeId → Hint
first_hint holder = record { seq = 1; holder = holder }

abbrev pub hint_of : Lease → Hint
hint_of lease = record { seq = lease.seq; holder = lease.holder }

-- The later of two hints, the one that stood where both are of one lease.
abbrev pub newer_hint : (told old : Hint) → Hint
newer_hint told old = if nat_lt old.seq told.seq then told else old

-- After a restart: what the own replica has applied, and the first hint where the node has no replica.
abbrev pub hint_at_start : Option Lease → NodeId → Hint
hint_at_start None first = first_hint first
hint_at_start (Some lease) first = hint_of lease
