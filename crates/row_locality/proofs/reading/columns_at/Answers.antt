use Rattle.std.proofs.Common.{List}
use Rattle.std.proofs.lemmas.Result.{err_from_is_err_and}
use Rattle.std.specs.Global.{Vec}
use Rattle.std.specs.Prelude.{ℕ}
use Rattle.std.specs.Borrow.{Bor}
use Rattle.mr_base.specs.declared.rows.Datum.{Datum}
use Rattle.row_locality.proofs.ReadingSteps.{column_read, column_fault, columns_ended, columns_left}
use Rattle.row_locality.proofs.reading.columns_at.Goals as goal

pub returns-in_err-v : goal.returns-in_err-v
returns-in_err-v c =
    let p = err_from_is_err_and c.from_residual.result c.from_residual.ensures.1 in
    rw (p.1, p.2)
    (column_fault (λ (x : Datum × Bor (List ℕ)). (x.0, x.1.now)) (λ (row : Vec Datum). row.items) c.in_err-v.field-0.0 c.loop-column.row.items c.loop-column.rest.now c.args.columns.now c.loop-column.column-index c.column-item.result
    _ c.loop-column-test.true c.column-item.is c.in_err-v.ensures c.loop-column.invariant)

pub loop-column-preserved : goal.loop-column-preserved
loop-column-preserved c =
    column_read c.loop-column.row.items c.loop-column.rest.now c.args.columns.now c.loop-column.column-index c.column-item.result c.in_ok-v.v c.in_ok-v.after.now c.push.new.self.items
    _ c.loop-column-test.true c.column-item.is c.in_ok-v.ensures c.in_ok-push.ensures.items c.loop-column.invariant

pub returns-then-not-is_empty : goal.returns-then-not-is_empty
returns-then-not-is_empty c =
    columns_left c.loop-column.row.items c.loop-column.rest.now c.args.columns.now c.loop-column.column-index c.is_empty.result _ c.loop-column-test.false c.is_empty.ensures c.if-not-is_empty.true c.loop-column.invariant

pub returns : goal.returns
returns c =
    columns_ended c.loop-column.row.items c.loop-column.rest.now c.args.columns.now c.loop-column.column-index c.is_empty.result _ c.loop-column-test.false c.is_empty.ensures c.if-not-is_empty.false c.loop-column.invariant
