use Rattle.std.proofs.Common.{arith}
use Rattle.std.proofs.lemmas.Grind.{common_steps}
use Rattle.mr_io.proofs.Told.{append_known-step}
use Rattle.mr_shell.proofs.report.write_text.Goals as goal

pub loop-done-preserved : goal.loop-done-preserved
loop-done-preserved g c =
    record {
      within = grind (arith, common_steps, c.in_ok-done.ensures.within);
      held = append_known-step _ _ _ c.args.text.now c.loop-done.done c.in_ok-done.field-0 c.loop-done.invariant.held c.in_ok-done.ensures.told;
      counted = omega (arith, c.in_ok-done.ensures.never_falls, c.loop-done.invariant.counted);
    }
