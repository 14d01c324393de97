use Rattle.std.proofs.Common.{ap, sym, ◌+◌, ◌∙◌, arith, map, drop}
use Rattle.std.proofs.lemmas.Result.{err_from_is_err_and}
use Rattle.sql_eval.specs.RowWords.{all_values, checked_row, made_row, made_rows}
use Rattle.sql_eval.proofs.RowSteps.{after, rows_step, rows_end, list_stop}
use Rattle.sql_eval.proofs.rows.made_rows.Goals as goal

pub returns-in_err-values : goal.returns-in_err-values
unfolding made_rows
returns-in_err-values c =
    let p = err_from_is_err_and c.from_residual.result c.from_residual.ensures.1 in
    rw (p.1, p.2) (list_stop (λ row. checked_row c.args.t.now (made_row c.args.t.now c.args.region.now c.args.names.now row)) c.args.rows.now c.loop-row.row-index c.row-item.result c.as_slice.result.now c.loop-row.made _ (omega arith) c.row-item.is c.as_slice.ensures c.in_err-values.ensures c.loop-row.invariant)

pub loop-row-preserved : goal.loop-row-preserved
loop-row-preserved c =
    c.loop-row.invariant
    ∙ rows_step (λ row. checked_row c.args.t.now (made_row c.args.t.now c.args.region.now c.args.names.now row)) c.args.rows.now c.loop-row.row-index c.row-item.result c.loop-row.made c.in_ok-values.values (omega arith) c.row-item.is (ap (λ row. checked_row c.args.t.now (made_row c.args.t.now c.args.region.now c.args.names.now row)) (sym c.as_slice.ensures) ∙ c.in_ok-values.ensures)
    ∙ ap (λ held. after held (all_values (map (λ row. checked_row c.args.t.now (made_row c.args.t.now c.args.region.now c.args.names.now row)) (drop (c.loop-row.row-index + 1) c.args.rows.now)))) (sym c.in_ok-push.ensures.ok)

pub returns : goal.returns
unfolding made_rows
returns c = c.loop-row.invariant ∙ rows_end (λ row. checked_row c.args.t.now (made_row c.args.t.now c.args.region.now c.args.names.now row)) c.args.rows.now c.loop-row.row-index c.loop-row.made (omega arith)
