use Rattle.std.proofs.Common.{refl, ap, ◌∙◌}
use Rattle.std.specs.Prelude.{◌+◌}
use Rattle.cluster_state.proofs.BeginLemmas.{retried_keeps, with_attempts}
use Rattle.cluster_state.proofs.Written.{made_entry}
use Rattle.cluster_state.proofs.state.State.retry.Goals as goal

pub returns-clause-number : goal.returns-clause-number
returns-clause-number c = c.in_ok-attempt.ensures ∙ ap (λ k. k + 1) c.requires.tied.begun_are

pub returns-clause-made : goal.returns-clause-made
returns-clause-made c =
    made_entry c.args.self.now (with_attempts c.args.self.now _) refl c.reserve.new.self c.write.new.self _ _ c.in_ok-reserve.ensures.history c.write.ensures
    (retried_keeps c.args.self.now c.args.txn _ c.args.cause c.requires.tied c.requires.stepping c.requires.own c.in_ok-attempt.ensures)
