use Rattle.std.specs.Prelude.{◌≡◌, ◌≢◌, ◌↔◌, ◌<◌, ◌*◌, ◌-◌, ◌^◌, Bool, true, List, IsTrue, All, AllPairs, bit_or, filter, fold, length}
use Rattle.mr_base.specs.Nodes.{IsMember, IsNode}
use Rattle.mr_base.specs.declared.ids.NodeId.{NodeId}
use Rattle.mr_base.specs.declared.nodes.NodeSet.{NodeSet}
use Rattle.range_log.specs.Appends.{has_majority}

-- The voters of a range as a set of nodes, and when most of them run. (Taft et al., SIGMOD 2020, on replication.)

-- A set with one node more: node k is its bit k - 1.
abbrev pub with_node : NodeSet → NodeId → NodeSet
with_node set n = record { 0 = bit_or set.0 (2 ^ (n.0 - 1)) }

-- The set of these nodes.
abbrev pub set_of : List NodeId → NodeSet
set_of nodes = fold with_node (record { 0 = 0 }) nodes

-- Of nodes that all differ a majority runs where more than half of them do.
abbrev pub MajorityIsMoreThanHalf : Type 0
MajorityIsMoreThanHalf =
    (voters : List NodeId) (runs : NodeId → Bool) (running : NodeSet) → All IsNode voters → AllPairs ◌≢◌ voters
    → All (λ n. IsTrue (runs n) ↔ IsMember running n) voters
    → (has_majority (set_of voters) running ≡ true) ↔ (length voters < 2 * length (filter runs voters))
