use Rattle.std.proofs.Common.{refl}
use Rattle.cluster_state.proofs.EndingLemmas.{faulted_keeps}
use Rattle.cluster_state.proofs.Written.{made_entry}
use Rattle.cluster_state.proofs.state.State.fault.Goals as goal

pub returns-clause-made : goal.returns-clause-made
returns-clause-made c =
    made_entry c.args.self.now c.args.self.now refl c.reserve.new.self c.write.new.self _ _ c.in_ok-reserve.ensures.history c.write.ensures
    (faulted_keeps c.args.self.now c.args.txn c.args.ts c.args.state c.requires.tied c.requires.due c.requires.waited)
