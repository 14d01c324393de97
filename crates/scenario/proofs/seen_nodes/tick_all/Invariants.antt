use Rattle.std.proofs.Common.{◌≡◌, ◌++◌, take, drop, map}
use Rattle.scenario.specs.SeenNodes.{ticked}
use Rattle.scenario.proofs.seen_nodes.tick_all.Given as goal

abbrev pub invariant-loop-node : goal.invariant-loop-node
invariant-loop-node l = l.nodes ≡ map (ticked l.ms) (take l.node-index l.fn.nodes) ++ drop l.node-index l.fn.nodes
