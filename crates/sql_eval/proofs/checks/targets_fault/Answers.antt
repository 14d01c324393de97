use Rattle.std.proofs.Common.{arith, sym, ◌∙◌}
use Rattle.std.proofs.lemmas.Grind.{common_steps}
use Rattle.sql_eval.proofs.CheckSteps.{target_ends, target_passes}
use Rattle.sql_eval.proofs.checks.targets_fault.Goals as goal

pub returns-in-Some : goal.returns-in-Some
returns-in-Some c = sym (c.loop-i.invariant ∙ target_ends c.args.t.now c.args.targets.now _ c.loop-i.i c.index-targets-i.result c.in-Some.fault c.in-Some.ensures (grind (arith, common_steps)) (omega arith) c.index-targets-i.is)

pub loop-i-preserved : goal.loop-i-preserved
loop-i-preserved c = c.loop-i.invariant ∙ target_passes c.args.t.now c.args.targets.now _ c.loop-i.i c.index-targets-i.result c.in_default.ensures (grind (arith, common_steps)) (omega arith) c.index-targets-i.is
