use Rattle.scenario.proofs.Tells.{range_told}
use Rattle.scenario.proofs.judgements.is_live.Goals as goal

pub returns : goal.returns
returns g c = range_told c.live.result (g.W.World.live_ranges c.args.w.now) c.args.r c.live.ensures
