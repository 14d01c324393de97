use Rattle.std.proofs.Common.{◌+◌, drop, sym, ap, ◌∙◌, arith}
use Rattle.std.proofs.lemmas.Result.{err_from_is_err_and}
use Rattle.sql_eval.specs.Execution.{exec_list}
use Rattle.sql_eval.specs.Tables.{database_in}
use Rattle.sql_eval.proofs.ExecutionSteps.{answered_after, list_more, list_ends, list_ends_early}
use Rattle.sql_eval.proofs.execution.exec_list.Goals as goal

pub returns-in_err-answer-clause-fault : goal.returns-in_err-answer-clause-fault
returns-in_err-answer-clause-fault c =
    let p = err_from_is_err_and c.from_residual.result c.from_residual.ensures.1 in
    rw (p.1, p.2) (list_ends_early c.args.catalog.now c.args.gateway.now c.args.list.now c.loop-s.s-index c.s-item.result (database_in c.loop-s.tables.items) c.loop-s.answers _ _ (omega arith) c.s-item.is c.in_err-answer.ensures.fault c.loop-s.invariant.1)

pub loop-s-preserved : goal.loop-s-preserved
loop-s-preserved c = (
  omega (arith, c.in_ok-answer.ensures.kept),
  c.loop-s.invariant.1
      ∙ list_more c.args.catalog.now c.args.gateway.now c.args.list.now c.loop-s.s-index c.s-item.result (database_in c.loop-s.tables.items) (database_in c.exec_statement.new.tables.items) c.loop-s.answers c.in_ok-answer.answer (omega arith) c.s-item.is c.in_ok-answer.ensures.ok
      ∙ ap (λ held. answered_after held (exec_list c.args.catalog.now c.args.gateway.now (drop (c.loop-s.s-index + 1) c.args.list.now) (database_in c.exec_statement.new.tables.items))) (sym c.in_ok-push.ensures.ok),
)

pub returns-clause-ok : goal.returns-clause-ok
returns-clause-ok c = c.loop-s.invariant.1 ∙ list_ends c.args.catalog.now c.args.gateway.now c.args.list.now c.loop-s.s-index (database_in c.loop-s.tables.items) c.loop-s.answers (omega arith)
