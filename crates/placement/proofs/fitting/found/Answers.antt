use Rattle.placement.proofs.TestedNodes.{found_step}
use Rattle.placement.proofs.fitting.found.Goals as goal

pub loop-id-preserved : goal.loop-id-preserved
loop-id-preserved c = found_step c.args.nodes.now c.args.ids.now c.loop-id.id-index _ c.loop-id.list c.add_found.new.list c.loop-id-test.true c.loop-id.invariant c.in_ok-add_found.ensures
