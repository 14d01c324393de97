use Rattle.std.proofs.Common.{Some, sym, ap, ◌∙◌}
use Rattle.sql_eval.proofs.ColumnSteps.{column_declared}
use Rattle.sql_eval.proofs.columns.column_named.Goals as goal

pub returns-in-Some : goal.returns-in-Some
returns-in-Some c = ap (λ name. Some (name, c.in-Some.column.now.1)) c.as_slice.ensures ∙ sym (column_declared c.args.t.now c.args.name.now c.in-Some.column.now (sym c.in-Some.ensures))
