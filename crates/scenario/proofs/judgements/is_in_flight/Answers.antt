use Rattle.scenario.proofs.Tells.{message_told}
use Rattle.scenario.proofs.judgements.is_in_flight.Goals as goal

pub returns : goal.returns
returns g c = message_told c.in_flight.result (g.W.World.flight c.args.w.now) c.args.m c.in_flight.ensures
