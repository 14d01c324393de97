use Rattle.std.proofs.Common.{◌≡◌, map, take}
use Rattle.node_states.specs.Moves.{first_node}
use Rattle.node_states.proofs.first.first_nodes.Given as goal

abbrev pub invariant-loop-plan : goal.invariant-loop-plan
invariant-loop-plan l = l.nodes.items ≡ map first_node (take l.plan-index l.fn.plans)
