use Rattle.std.proofs.Common.{refl, ap, ap₂, ◌∙◌}
use Rattle.std.specs.Prelude.{◌+◌}
use Rattle.run_laws.specs.Begun.{limit_at}
use Rattle.cluster_state.proofs.BeginLemmas.{begun_keeps, with_start}
use Rattle.cluster_state.proofs.Written.{made_entry}
use Rattle.cluster_state.proofs.state.State.begin_txn.Goals as goal

pub returns-clause-made : goal.returns-clause-made
returns-clause-made c =
    made_entry c.args.self.now (with_start c.args.self.now c.args.gateway c.next_reading.new.node _) refl c.reserve.new.self c.write.new.self _ _ c.in_ok-reserve.ensures.history c.write.ensures
    (begun_keeps c.args.self.now c.args.txn c.args.gateway c.in_ok-attempt.attempt c.index_mut.result.now c.next_reading.new.node c.in_ok-reading.reading c.start_at-start.result c.in_ok-limit.limit
    c.requires.tied c.requires.there c.requires.due c.in_ok-attempt.ensures c.index_mut.ensures.value c.in_ok-reading.ensures.next c.in_ok-reading.ensures.later c.in_ok-reading.ensures.kept c.start_at-start.ensures
    (c.in_ok-limit.ensures ∙ ap (λ e. limit_at e c.start_at-start.result c.args.self.now.stage.settings) c.event.ensures))
