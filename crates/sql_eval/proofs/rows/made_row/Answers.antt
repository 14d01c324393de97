use Rattle.std.proofs.Common.{ap, subst, ◌∙◌, arith}
use Rattle.std.specs.List.{filter_map, list_all}
use Rattle.std.proofs.lemmas.List.{take_all}
use Rattle.std.proofs.lemmas.Result.{err_from_is_err_and}
use Rattle.row_locality.specs.Rows.{all_columns}
use Rattle.sql_eval.specs.RowWords.{is_in_range, checked_row, made_row}
use Rattle.sql_eval.specs.Answered.{Answers}
use Rattle.sql_eval.proofs.RowSteps.{made_at, row_more, row_stop}
use Rattle.sql_eval.proofs.rows.made_row.Goals as goal

pub returns-in_err-value : goal.returns-in_err-value
unfolding made_row
returns-in_err-value c =
    let p = err_from_is_err_and c.from_residual.result c.from_residual.ensures.1 in
    rw (p.1, p.2) (row_stop c.args.t.now (made_at c.args.region.now c.args.names.now c.args.row.now) (all_columns c.args.t.now) c.loop-place.place _ _ c.column_at-column.ensures c.in_err-value.ensures)

pub loop-place-preserved : goal.loop-place-preserved
loop-place-preserved c =
    let more = row_more (made_at c.args.region.now c.args.names.now c.args.row.now) (all_columns c.args.t.now) c.loop-place.place (c.column_at-column.result.name.now, c.column_at-column.result.ty) c.loop-place.made c.in_ok-value.value c.column_at-column.ensures c.in_ok-value.ensures c.loop-place.invariant.0 c.loop-place.invariant.1 in
    (c.in_ok-push_some.ensures ∙ more.0, ap (list_all is_in_range) c.in_ok-push_some.ensures ∙ more.1)

pub returns : goal.returns
unfolding made_row
returns c =
    let h = made_at c.args.region.now c.args.names.now c.args.row.now in
    subst (λ made. Answers (checked_row c.args.t.now made) c.short_row.result) (c.loop-place.invariant.0 ∙ ap (filter_map h) (take_all c.loop-place.place (all_columns c.args.t.now) (omega arith))) c.short_row.ensures
