-- The nodes of a scenario as its lines leave them. Node k is at place k - 1.
use Rattle.std.specs.Prelude.{ℕ, Bool, false, ◌+◌, ◌-◌, ◌==◌, nat_le, if◌then◌else◌, List, map, slice_get, slice_set, Option, Some, None}
use Rattle.std.specs.List.{list_any}
use Rattle.mr_base.specs.declared.ids.NodeId.{NodeId}
use Rattle.scenario.specs.declared.seen_nodes.SeenNode.{SeenNode}

-- Physical clocks stay below 2^53 milliseconds.
abbrev pub clock_limit : ℕ
clock_limit = 9007199254740992

-- The node of a number.
abbrev pub find_node : List SeenNode → NodeId → Option SeenNode
find_node nodes n = if n.0 == 0 then None else slice_get nodes (n.0 - 1)

abbrev pub passes : ℕ → SeenNode → Bool
passes ms node = nat_le clock_limit (node.clock + ms)

abbrev pub node_passes : ℕ → Option SeenNode → Bool
node_passes ms None = false
node_passes ms (Some node) = passes ms node

-- The clock of the node that is named, or of some node where none is, would pass the limit.
abbrev pub clocks_pass : List SeenNode → Option NodeId → ℕ → Bool
clocks_pass nodes None ms = list_any (passes ms) nodes
clocks_pass nodes (Some n) ms = node_passes ms (find_node nodes n)

abbrev pub ticked : ℕ → SeenNode → SeenNode
ticked ms node = record node { clock = node.clock + ms }

abbrev pub restarted : Bool → SeenNode → SeenNode
restarted running node = record node { running = running }

abbrev pub put : List SeenNode → ℕ → Option SeenNode → List SeenNode
put nodes i None = nodes
put nodes i (Some node) = slice_set nodes i node

abbrev pub changed : (SeenNode → SeenNode) → Option SeenNode → Option SeenNode
changed change None = None
changed change (Some node) = Some (change node)

-- The nodes after a change of one of them.
abbrev pub with_node : (SeenNode → SeenNode) → List SeenNode → NodeId → List SeenNode
with_node change nodes n = put nodes (n.0 - 1) (changed change (find_node nodes n))

-- The nodes after a tick of the node that is named, or of all nodes where none is.
abbrev pub ticked_by : List SeenNode → Option NodeId → ℕ → List SeenNode
ticked_by nodes None ms = map (ticked ms) nodes
ticked_by nodes (Some n) ms = with_node (ticked ms) nodes n
