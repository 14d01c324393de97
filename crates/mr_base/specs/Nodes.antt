use Rattle.std.specs.Prelude.{ℕ, ◌≤◌, ◌-◌, count_ones, IsBitSet}
use Rattle.mr_base.specs.declared.ids.NodeId.{NodeId}
use Rattle.mr_base.specs.declared.nodes.NodeSet.{NodeSet}

-- Nodes are numbered from 1 to 64.
abbrev pub IsNode : NodeId → Type 0
IsNode n = (1 ≤ n.0) × (n.0 ≤ 64)

-- Node k of a set is its bit k - 1.
abbrev pub IsMember : NodeSet → NodeId → Type 0
IsMember s n = IsBitSet s.0 (n.0 - 1)

-- How many nodes are in the set.
abbrev pub nodes_in : NodeSet → ℕ
nodes_in s = count_ones s.0
