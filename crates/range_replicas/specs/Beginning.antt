use Rattle.std.specs.Prelude.{◌≡◌, ℕ, Bool, List, [], ◌∷◌, Some, All, map, slice_get}
use Rattle.closed_ts.specs.Targets.{at_wall}
use Rattle.mr_base.specs.declared.ids.NodeId.{NodeId}
use Rattle.mr_base.specs.declared.timestamps.Ts.{Ts}
use Rattle.mvcc_range.specs.Follows.{Follows}
use Rattle.range_log.specs.declared.entries.Entry.{Entry}
use Rattle.range_log.specs.declared.entries.Entry.TheVariants as log
use Rattle.range_log.specs.declared.entries.Lease.{Lease}
use Rattle.range_rules.specs.Leases.{IsFirst}
use Rattle.range_server.specs.Applying.{seen_after}
use Rattle.range_server.specs.Seen.{nothing_above}
use Rattle.range_server.specs.declared.standing.Standing.{Standing}

-- How a range begins. (This project's profile.)

-- Its log begins with the lease of the first voter, at that node's boot.
pub record BeginsWith (voters : List NodeId) (boots : List ℕ) (wall duration : ℕ) (low : Ts) (entries : List Entry) : Type 0 where
  pub lease : Lease
  pub holder : slice_get voters 0 ≡ Some lease.holder
  pub boot : slice_get boots 0 ≡ Some lease.boot
  pub first : IsFirst lease lease.holder lease.boot wall duration low
  pub alone : entries ≡ log.Lease lease ∷ []

-- A server has applied the log, and has served nothing.
pub record HasBegun (entries : List Entry) (s : Standing) : Type 0 where
  pub follows : Follows s.replica entries
  pub unread : s.cache ≡ seen_after s.node s.boot entries (nothing_above (at_wall 0))

-- It is the server of a replica at a node, at a boot.
pub record IsServerOf (node : NodeId) (boot : ℕ) (is_global : Bool) (entries : List Entry) (s : Standing) : Type 0 where
  pub node_is : s.node ≡ node
  pub boot_is : s.boot ≡ boot
  pub kind : s.is_global ≡ is_global
  pub begun : HasBegun entries s

-- These are the servers of replicas at these nodes, at these boots.
pub record AreServersOf (nodes : List NodeId) (boots : List ℕ) (is_global : Bool) (entries : List Entry) (servers : List Standing) : Type 0 where
  pub nodes_are : map (λ s. s.node) servers ≡ nodes
  pub boots_are : map (λ s. s.boot) servers ≡ boots
  pub kind : All (λ s. s.is_global ≡ is_global) servers
  pub begun : All (HasBegun entries) servers
