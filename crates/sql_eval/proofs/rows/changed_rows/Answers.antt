use Rattle.std.proofs.Common.{ap, sym, ◌+◌, ◌∙◌, arith, map, drop}
use Rattle.std.proofs.lemmas.Result.{err_from_is_err_and}
use Rattle.sql_eval.specs.RowWords.{all_values, checked_row, changed_row, changed_rows}
use Rattle.sql_eval.proofs.RowSteps.{after, rows_step, rows_end, list_stop}
use Rattle.sql_eval.proofs.rows.changed_rows.Goals as goal

pub returns-in_err-values : goal.returns-in_err-values
unfolding changed_rows
returns-in_err-values c =
    let p = err_from_is_err_and c.from_residual.result c.from_residual.ensures.1 in
    rw (p.1, p.2) (list_stop (λ old. checked_row c.args.t.now (changed_row c.args.t.now c.args.targets.now old)) c.args.olds.now c.loop-old.old-index c.old-item.result c.as_slice.result.now c.loop-old.changed _ (omega arith) c.old-item.is c.as_slice.ensures c.in_err-values.ensures c.loop-old.invariant)

pub loop-old-preserved : goal.loop-old-preserved
loop-old-preserved c =
    c.loop-old.invariant
    ∙ rows_step (λ old. checked_row c.args.t.now (changed_row c.args.t.now c.args.targets.now old)) c.args.olds.now c.loop-old.old-index c.old-item.result c.loop-old.changed c.in_ok-values.values (omega arith) c.old-item.is (ap (λ old. checked_row c.args.t.now (changed_row c.args.t.now c.args.targets.now old)) (sym c.as_slice.ensures) ∙ c.in_ok-values.ensures)
    ∙ ap (λ held. after held (all_values (map (λ old. checked_row c.args.t.now (changed_row c.args.t.now c.args.targets.now old)) (drop (c.loop-old.old-index + 1) c.args.olds.now)))) (sym c.in_ok-push.ensures.ok)

pub returns : goal.returns
unfolding changed_rows
returns c = c.loop-old.invariant ∙ rows_end (λ old. checked_row c.args.t.now (changed_row c.args.t.now c.args.targets.now old)) c.args.olds.now c.loop-old.old-index c.loop-old.changed (omega arith)
