use Rattle.std.proofs.Common.{◌≡◌, ◌++◌, take, drop, map}
use Rattle.node_states.specs.Moves.{moved}
use Rattle.node_states.proofs.moves.move_nodes.Given as goal

abbrev pub invariant-loop-node : goal.invariant-loop-node
invariant-loop-node l = l.nodes ≡ map (moved l.moving) (take l.node-index l.fn.nodes) ++ drop l.node-index l.fn.nodes
