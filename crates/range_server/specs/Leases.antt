use Rattle.std.specs.Prelude.{◌≡◌, ◌≤◌, ◌<◌, ⊤, ℕ, true, false, List, ◌∷◌, Some, Result, Ok, Err}
use Rattle.mr_base.specs.Nodes.{IsMember}
use Rattle.mr_base.specs.declared.ids.NodeId.{NodeId}
use Rattle.mr_base.specs.declared.nodes.NodeSet.{NodeSet}
use Rattle.range_log.specs.Appends.{has_majority, stopped_of}
use Rattle.range_log.specs.Facts.{lease_of}
use Rattle.range_log.specs.LogValue.{LogValue}
use Rattle.range_log.specs.declared.entries.Entry.{Entry}
use Rattle.range_log.specs.declared.entries.Entry.TheVariants as log
use Rattle.range_log.specs.declared.entries.Lease.{Lease}
use Rattle.range_rules.specs.Leases.{IsAcquired, IsExtended, IsTransferred}
use Rattle.range_server.specs.Scene.{Holds, Scene}
use Rattle.range_server.specs.declared.leases.LeaseRefusal.{LeaseRefusal}
use Rattle.range_server.specs.declared.leases.LeaseRefusal.TheVariants as refusals
use Rattle.ts_cache.specs.Cached.{top_of}

-- What is answered where a lease is taken, handed on or extended, and where a timestamp is closed, and what the
-- log's entries are then. (Leases: Taft et al., SIGMOD 2020; closed timestamps: VanBenschoten et al., SIGMOD 2022;
-- the refusals and their order are this project's profile.)

-- A call has answered: memory didn't run out.
abbrev pub HasAnswered : {A : Type 0} → Result A LeaseRefusal → Type 0
HasAnswered (Ok answer) = ⊤
HasAnswered (Err refusals.Memory) = ⊥
HasAnswered (Err refusal) = ⊤

-- A call was refused, and not for want of memory.
abbrev pub HasRefused : {A : Type 0} → Result A LeaseRefusal → Type 0
HasRefused (Ok answer) = ⊥
HasRefused (Err refusals.Memory) = ⊥
HasRefused (Err refusal) = ⊤

-- The log's last lease.
abbrev pub IsLast : Scene → Lease → Type 0
IsLast sc last = lease_of sc.log.entries ≡ Some last

-- A majority of the voters runs, or none does and these are stopped.
abbrev pub HasQuorum : Scene → Type 0
HasQuorum sc = has_majority sc.log.voters sc.now.running ≡ true

abbrev pub LacksQuorum : Scene → NodeSet → Type 0
LacksQuorum sc down =
    (has_majority sc.log.voters sc.now.running ≡ false) × (down ≡ stopped_of sc.log.voters sc.now.running)

-- A node takes the last lease of the log, which is expired.
pub record HasAcquired (sc : Scene) (lease : Lease) (after : List Entry) : Type 0 where
  pub voter : IsMember sc.log.voters sc.server.node
  pub last : Lease
  pub is_last : IsLast sc last
  pub quorum : HasQuorum sc
  pub acquired : IsAcquired last lease sc.server.node sc.server.boot sc.now.clock.wall sc.now.settings.lease
  pub appended : after ≡ log.Lease lease ∷ sc.log.entries

-- Only a voter takes a lease, and only an expired one.
abbrev pub Acquires : Scene → Result Lease LeaseRefusal → (after : List Entry) → Type 0
Acquires sc (Ok lease) after = HasAcquired sc lease after
Acquires sc (Err refusals.NotVoter) after = (¬ IsMember sc.log.voters sc.server.node) × (after ≡ sc.log.entries)
Acquires sc (Err (refusals.Live expiration)) after =
    IsMember sc.log.voters sc.server.node
    × ((last : Lease) × IsLast sc last × (sc.now.clock.wall ≤ last.expiration) × (expiration ≡ last.expiration))
    × (after ≡ sc.log.entries)
Acquires sc (Err (refusals.NoQuorum down)) after =
    IsMember sc.log.voters sc.server.node
    × ((last : Lease) × IsLast sc last × (last.expiration < sc.now.clock.wall))
    × LacksQuorum sc down × (after ≡ sc.log.entries)
Acquires sc (Err refusals.NotHolder) after = ⊥
Acquires sc (Err refusals.Memory) after = ⊤

-- The holder hands its lease on to a node at its boot; nothing is written below what was read under it.
pub record HasTransferred (sc : Scene) (to : NodeId) (boot : ℕ) (lease : Lease) (after : List Entry) : Type 0 where
  pub last : Lease
  pub holds : Holds sc last
  pub voter : IsMember sc.log.voters to
  pub quorum : HasQuorum sc
  pub transferred : IsTransferred last lease to boot sc.now.clock.wall sc.now.settings.lease
  pub low_is : lease.low ≡ top_of sc.server.cache
  pub appended : after ≡ log.Lease lease ∷ sc.log.entries

-- Only the holder hands a lease on, and only to a voter.
abbrev pub Transfers : Scene → (to : NodeId) → (boot : ℕ) → Result Lease LeaseRefusal → (after : List Entry) → Type 0
Transfers sc to boot (Ok lease) after = HasTransferred sc to boot lease after
Transfers sc to boot (Err refusals.NotHolder) after = ((lease : Lease) → ¬ Holds sc lease) × (after ≡ sc.log.entries)
Transfers sc to boot (Err refusals.NotVoter) after =
    ((lease : Lease) × Holds sc lease) × (¬ IsMember sc.log.voters to) × (after ≡ sc.log.entries)
Transfers sc to boot (Err (refusals.NoQuorum down)) after =
    ((lease : Lease) × Holds sc lease) × IsMember sc.log.voters to × LacksQuorum sc down × (after ≡ sc.log.entries)
Transfers sc to boot (Err (refusals.Live expiration)) after = ⊥
Transfers sc to boot (Err refusals.Memory) after = ⊤

-- The holder extends its lease.
pub record HasExtended (sc : Scene) (lease : Lease) (after : List Entry) : Type 0 where
  pub last : Lease
  pub holds : Holds sc last
  pub quorum : HasQuorum sc
  pub extended : IsExtended last lease sc.now.clock.wall sc.now.settings.lease
  pub appended : after ≡ log.Lease lease ∷ sc.log.entries

-- Only the holder extends a lease.
abbrev pub Extends : Scene → Result Lease LeaseRefusal → (after : List Entry) → Type 0
Extends sc (Ok lease) after = HasExtended sc lease after
Extends sc (Err refusals.NotHolder) after = ((lease : Lease) → ¬ Holds sc lease) × (after ≡ sc.log.entries)
Extends sc (Err (refusals.NoQuorum down)) after =
    ((lease : Lease) × Holds sc lease) × LacksQuorum sc down × (after ≡ sc.log.entries)
Extends sc (Err refusals.NotVoter) after = ⊥
Extends sc (Err (refusals.Live expiration)) after = ⊥
Extends sc (Err refusals.Memory) after = ⊤

-- The lease by which the server holds its range, if by any.
abbrev pub IsHeldAs : Scene → Result Lease LeaseRefusal → Type 0
IsHeldAs sc (Ok lease) = Holds sc lease
IsHeldAs sc (Err refusals.NotHolder) = (lease : Lease) → ¬ Holds sc lease
IsHeldAs sc (Err refusal) = ⊥

-- A lease is appended after the log's last where a majority of the voters runs.
abbrev pub AppendsLease : {A : Type 0} → Lease → NodeSet → (before after : LogValue) → Result A LeaseRefusal → Type 0
AppendsLease lease running before after (Ok x) =
    (has_majority before.voters running ≡ true) × (after.entries ≡ log.Lease lease ∷ before.entries)
    × (after.voters ≡ before.voters)
AppendsLease lease running before after (Err (refusals.NoQuorum down)) =
    (has_majority before.voters running ≡ false) × (down ≡ stopped_of before.voters running)
    × (after.entries ≡ before.entries) × (after.voters ≡ before.voters)
AppendsLease lease running before after (Err refusals.Memory) = ⊤
AppendsLease lease running before after (Err refusals.NotVoter) = ⊥
AppendsLease lease running before after (Err refusals.NotHolder) = ⊥
AppendsLease lease running before after (Err (refusals.Live expiration)) = ⊥
