use Rattle.std.proofs.Common.{refl}
use Rattle.cluster_state.proofs.FlightLemmas.{dropped_keeps}
use Rattle.cluster_state.proofs.Written.{made_entry}
use Rattle.cluster_state.proofs.state.State.lose_message.Goals as goal

pub returns-clause-made : goal.returns-clause-made
returns-clause-made c =
    made_entry c.args.self.now (record c.args.self.now { flight = c.take-lost.new.self }) refl c.reserve.new.self c.write.new.self _ _ c.in_ok-reserve.ensures.history c.write.ensures
    (dropped_keeps c.args.self.now c.take-lost.new.self c.args.id c.requires.tied c.requires.flying c.requires.line c.take-lost.ensures.others)
