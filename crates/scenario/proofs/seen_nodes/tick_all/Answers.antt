use Rattle.std.proofs.Common.{arith}
use Rattle.scenario.specs.SeenNodes.{ticked}
use Rattle.scenario.proofs.NodeLemmas.{front_grows}
use Rattle.scenario.proofs.seen_nodes.tick_all.Goals as goal

pub loop-node-preserved : goal.loop-node-preserved
loop-node-preserved c =
    front_grows (ticked c.args.ms) c.args.nodes.now c.loop-node.nodes c.loop-node.node-index _ c.tick.new.node (omega arith) c.loop-node.invariant c.tick.ensures
