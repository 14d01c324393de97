use Rattle.std.proofs.Common.{◌∙◌, ap}
use Rattle.sql_eval.specs.OwnWrites.{with_write}
use Rattle.planner.proofs.PlaceLemmas.{all_made, made_more}
use Rattle.planner.proofs.own_writes.OwnWrites.make.Goals as goal

pub loop-w-preserved : goal.loop-w-preserved
loop-w-preserved c =
    made_more c.loop-w.self c.write.new.self c.args.self.now c.args.writes.now c.loop-w.w-index c.w-item.result c.loop-w-test.true c.w-item.is
    (c.in_ok-write.ensures.ok
    ∙ ap (with_write c.loop-w.self)
    ((λ i. record { range = c.w.inside.range; key = c.in_ok-key.ensures.copy i; before = c.in_ok-before.ensures.copy i; after = c.in_ok-after.ensures.copy i }) ∙ c.w.view_is))
    c.loop-w.invariant

pub returns : goal.returns
returns c = all_made c.loop-w.self c.args.self.now c.args.writes.now c.loop-w.w-index c.loop-w-test.false c.loop-w.invariant
