use Rattle.std.proofs.Common.{◌∙◌}
use Rattle.scenario.proofs.Tells.{wait_told}
use Rattle.scenario.proofs.judgements.waits.Goals as goal

pub returns : goal.returns
returns g c = c.is_some.ensures ∙ wait_told c.awaits.result (g.W.World.awaited c.args.w.now) (record { 0 = c.args.t }) c.awaits.ensures.some c.awaits.ensures.none
