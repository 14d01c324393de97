use Rattle.std.specs.Prelude.{All, false, if◌then◌else◌, length, List, map, ℕ, ⊤, ◌-◌, ◌<◌, ◌≤◌, ◌==◌, ◌≡◌, slice_index_or}
use Rattle.closed_ts.specs.Targets.{at_wall}
use Rattle.hlc.specs.Readings.{nothing}
use Rattle.mr_base.specs.declared.ids.NodeId.{NodeId}
use Rattle.node_states.specs.declared.moves.Move.TheVariants as moves
use Rattle.node_states.specs.declared.moves.Move.{Move}
use Rattle.node_states.specs.declared.states.NodeState.{NodeState}
use Rattle.range_replicas.specs.RangeValue.{RangeValue}
use Rattle.range_server.specs.Seen.{nothing_above}
use Rattle.range_server.specs.declared.standing.Standing.{Standing}

-- What a node's start does to its replicas: their servers are at its new boot, and know nothing of what was read.
-- (This project's profile.)

abbrev pub restarted_server : NodeId → (boot : ℕ) → Standing → Standing
restarted_server node boot s =
    if s.node.0 == node.0 then record s { boot = boot; cache = nothing_above (at_wall 0) } else s

abbrev pub restarted : NodeId → (boot : ℕ) → RangeValue → RangeValue
restarted node boot r = record r { servers = map (restarted_server node boot) r.servers }

-- The servers at a node are of earlier boots.
abbrev pub AreBefore : NodeId → (boot : ℕ) → RangeValue → Type 0
AreBefore node boot r = All (λ s. s.node ≡ node → s.boot < boot) r.servers

-- The boot of a node, of all nodes in the order of their numbers.
abbrev pub no_node : NodeState
no_node =
    record { id = record { 0 = 0 }; clock = record { physical = 0; kept = nothing }; boot = 0; runs = false }

abbrev pub boot_in : List NodeState → NodeId → ℕ
boot_in nodes n = (slice_index_or nodes (n.0 - 1) no_node).boot

-- Where a node has started, its boot is later than those of its servers.
abbrev pub IsAhead : Move → List NodeState → List RangeValue → Type 0
IsAhead (moves.Start n) nodes ranges =
    (1 ≤ n.0) × (n.0 ≤ length nodes) × All (AreBefore n (boot_in nodes n)) ranges
IsAhead move nodes ranges = ⊤

-- What a line does to the ranges, where the nodes are moved already.
abbrev pub moved_ranges : Move → List NodeState → List RangeValue → List RangeValue
moved_ranges (moves.Start n) nodes ranges = map (restarted n (boot_in nodes n)) ranges
moved_ranges move nodes ranges = ranges
