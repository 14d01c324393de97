use Rattle.std.proofs.Common.{◌∙◌, List, sym, subst}
use Rattle.std.specs.Prelude.{IfOk}
use Rattle.region_sql.specs.declared.row_statements.RowStatement.{RowStatement}
use Rattle.sql_eval.specs.Reads.{served_reads}
use Rattle.planner.proofs.ProgressLemmas.{list_step}
use Rattle.planner.specs.Progress.{IsStepIn}
use Rattle.planner.proofs.progress.advance.Goals as goal

pub returns-in-Ok : goal.returns-in-Ok
returns-in-Ok c =
    let s = c.args.setting.now in
    list_step s (served_reads c.args.known.now) c.args.p c.in-Ok.list c.advance_in.result (sym c.list.ensures ∙ c.in-Ok.is)
    (subst (λ (list : List RowStatement). IfOk c.advance_in.result (IsStepIn s list (served_reads c.args.known.now) c.args.p)) c.as_slice.ensures c.advance_in.ensures)
