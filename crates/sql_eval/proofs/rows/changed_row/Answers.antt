use Rattle.std.proofs.Common.{ℕ, List, ap, subst, ◌∙◌, arith}
use Rattle.std.specs.List.{filter_map, list_all, enumerate_from}
use Rattle.std.proofs.lemmas.Result.{err_from_is_err_and}
use Rattle.region_sql.specs.declared.region_statements.ColumnType.{ColumnType}
use Rattle.row_locality.specs.Rows.{all_columns}
use Rattle.sql_eval.specs.RowWords.{is_in_range, checked_row, changed_row}
use Rattle.sql_eval.specs.Answered.{Answers}
use Rattle.sql_eval.proofs.ListSteps.{numbered_at, numbered_all}
use Rattle.sql_eval.proofs.RowSteps.{changed_at, row_more, row_stop}
use Rattle.sql_eval.proofs.rows.changed_row.Goals as goal

pub returns-in_err-value : goal.returns-in_err-value
unfolding changed_row
returns-in_err-value c =
    let p = err_from_is_err_and c.from_residual.result c.from_residual.ensures.1 in
    rw (p.1, p.2) (row_stop c.args.t.now (changed_at c.args.t.now c.args.targets.now c.args.old.now) (enumerate_from 0 (all_columns c.args.t.now)) c.loop-place.place _ _ (numbered_at (all_columns c.args.t.now) c.loop-place.place (c.column_at-column.result.name.now, c.column_at-column.result.ty) c.column_at-column.ensures) c.in_err-value.ensures)

pub loop-place-preserved : goal.loop-place-preserved
loop-place-preserved c =
    let column : List ℕ × ColumnType = (c.column_at-column.result.name.now, c.column_at-column.result.ty) in
    let more = row_more (changed_at c.args.t.now c.args.targets.now c.args.old.now) (enumerate_from 0 (all_columns c.args.t.now)) c.loop-place.place (c.loop-place.place, column) c.loop-place.changed c.in_ok-value.value (numbered_at (all_columns c.args.t.now) c.loop-place.place column c.column_at-column.ensures) c.in_ok-value.ensures c.loop-place.invariant.0 c.loop-place.invariant.1 in
    (c.in_ok-push_some.ensures ∙ more.0, ap (list_all is_in_range) c.in_ok-push_some.ensures ∙ more.1)

pub returns : goal.returns
unfolding changed_row
returns c =
    let h = changed_at c.args.t.now c.args.targets.now c.args.old.now in
    subst (λ changed. Answers (checked_row c.args.t.now changed) c.short_row.result) (c.loop-place.invariant.0 ∙ ap (filter_map h) (numbered_all (all_columns c.args.t.now) c.loop-place.place (omega arith))) c.short_row.ensures
