use Rattle.std.proofs.Common.{refl, arith}
use Rattle.zone_report.proofs.Nodes.{numbered_more}
use Rattle.zone_report.proofs.regions.are_numbered.Goals as goal

pub loop-place-preserved : goal.loop-place-preserved
loop-place-preserved c = numbered_more c.args.nodes.now c.loop-place.place c.index-nodes-place.result c.loop-place-test.true c.index-nodes-place.is c.if-node-place.false c.loop-place.invariant

pub returns : goal.returns
returns c = (λ yes k other lt. c.loop-place.invariant k other (omega (arith, lt, c.loop-place-test.false)), λ h. refl)
