use Rattle.std.specs.Prelude.{◌≡◌, ◌≢◌, ◌≤◌, ◌<◌, ⊤, ℕ, List, [], ◌∷◌, IsSome, IfSome, All, AllPairs, map}
use Rattle.mr_base.specs.Nodes.{IsNode}
use Rattle.mvcc_range.specs.Follows.{Follows}
use Rattle.range_log.specs.Facts.{first_entries, lease_of}
use Rattle.range_log.specs.declared.entries.Entry.{Entry}
use Rattle.range_log.specs.declared.entries.Entry.TheVariants as log
use Rattle.range_log.specs.declared.entries.Lease.{Lease}
use Rattle.range_replicas.specs.RangeValue.{RangeValue, replicas}
use Rattle.range_replicas.specs.Voters.{set_of}
use Rattle.range_rules.specs.Holding.{IsHolder}
use Rattle.range_server.specs.Scene.{applied_by}
use Rattle.range_server.specs.declared.standing.Standing.{Standing}

-- How the servers of a range's replicas stand beside its log. (Leases: Taft et al., SIGMOD 2020, in this project's
-- profile.)

-- The leases of a log are numbered upwards.
abbrev pub AreNumbered : List Entry → Type 0
AreNumbered [] = ⊤
AreNumbered (log.Lease lease ∷ older) = IfSome (lease_of older) (λ last. last.seq < lease.seq) × AreNumbered older
AreNumbered (e ∷ older) = AreNumbered older

-- However many more entries a server applies, it is holder only with all of them.
abbrev pub HoldsWithAll : List Entry → Standing → Type 0
HoldsWithAll entries s =
    (n : ℕ) (lease : Lease) → s.replica.applied ≤ n → IsHolder (first_entries n entries) entries s.node s.boot lease
    → first_entries n entries ≡ entries

-- The last lease of a log is of no later boot of a server's node.
abbrev pub HasNoLaterLease : List Entry → Standing → Type 0
HasNoLaterLease entries s = IfSome (lease_of entries) (λ lease. lease.holder ≡ s.node → lease.boot ≤ s.boot)

-- A server's replica follows the entries that it has applied, the first lease among them.
abbrev pub FollowsFirst : List Entry → Standing → Type 0
FollowsFirst entries s = Follows s.replica (applied_by s entries)

abbrev pub HasLease : List Entry → Standing → Type 0
HasLease entries s = IsSome (lease_of (applied_by s entries))

-- A range is sound: the servers are those of its replicas, on different nodes, and of its kind; its voters vote on
-- its log; each server stands beside the log.
pub record IsSound (r : RangeValue) : Type 0 where
  pub nodes : map (λ s. s.node) r.servers ≡ replicas r
  pub distinct : AllPairs ◌≢◌ (replicas r)
  pub numbered : All IsNode (replicas r)
  pub kind : All (λ s. s.is_global ≡ r.is_global) r.servers
  pub voters : r.log.voters ≡ set_of r.voters
  pub leases : AreNumbered r.log.entries
  pub follows : All (FollowsFirst r.log.entries) r.servers
  pub leased : All (HasLease r.log.entries) r.servers
  pub whole : All (HoldsWithAll r.log.entries) r.servers
  pub boots : All (HasNoLaterLease r.log.entries) r.servers
