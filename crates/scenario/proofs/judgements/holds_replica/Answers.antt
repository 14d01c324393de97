use Rattle.scenario.proofs.Tells.{replica_told}
use Rattle.scenario.proofs.judgements.holds_replica.Goals as goal

pub returns : goal.returns
returns g c = replica_told c.has_replica.result (g.W.World.replicas c.args.w.now) c.args.n c.args.r c.has_replica.ensures
