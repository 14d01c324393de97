use Rattle.std.proofs.Common.{Ok, sym, ap, ◌∙◌}
use Rattle.std.proofs.lemmas.Result.{err_from_is_err_and}
use Rattle.sql_eval.specs.Execution.{named_table}
use Rattle.sql_eval.specs.Tables.{database_in, named}
use Rattle.sql_eval.proofs.ExecutionSteps.{names_no_table, statement_ok, statement_stops}
use Rattle.sql_eval.proofs.execution.exec_statement.Goals as goal

pub returns-in_default-clause-fault : goal.returns-in_default-clause-fault
returns-in_default-clause-fault c =
    names_no_table c.args.catalog.now c.args.gateway.now c.args.s.now (database_in c.args.tables.now.items)
    (ap (named_table c.args.catalog.now) (sym c.table_name.ensures) ∙ sym c.in_default.ensures.named)

pub returns-in_err-answer-clause-fault : goal.returns-in_err-answer-clause-fault
returns-in_err-answer-clause-fault c =
    let p = err_from_is_err_and c.from_residual.result c.from_residual.ensures.1 in
    rw (p.1, p.2) (statement_stops c.args.catalog.now c.args.gateway.now c.args.s.now (database_in c.args.tables.now.items) (named c.in-Some.n) c.rows_at-rows.result.now _
    (ap (named_table c.args.catalog.now) (sym c.table_name.ensures) ∙ sym c.in-Some.ensures.named)
    (c.rows_at-rows.ensures ∙ ap (λ ts. database_in ts c.in-Some.n.place) c.as_slice.ensures.value)
    c.in_err-answer.ensures)

pub returns-clause-ok : goal.returns-clause-ok
returns-clause-ok c =
    statement_ok c.args.catalog.now c.args.gateway.now c.args.s.now (database_in c.args.tables.now.items) (named c.in-Some.n) c.rows_at-rows.result.now c.in_ok-answer.after c.in_ok-answer.answer
    (ap (named_table c.args.catalog.now) (sym c.table_name.ensures) ∙ sym c.in-Some.ensures.named)
    (c.rows_at-rows.ensures ∙ ap (λ ts. database_in ts c.in-Some.n.place) c.as_slice.ensures.value)
    c.in_ok-answer.ensures
    ∙ ap (λ d. Ok (c.in_ok-answer.answer, d)) (sym c.put_rows.ensures.rows)
