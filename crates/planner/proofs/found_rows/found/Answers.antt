use Rattle.std.proofs.Common.{◌≡◌, List, [], length, refl, subst, sym, ap, ◌∙◌}
use Rattle.mr_base.specs.declared.results.Verb.TheVariants as verbs
use Rattle.region_sql.specs.declared.row_statements.RowStatement.{RowStatement}
use Rattle.region_sql.specs.declared.row_statements.RowStatement.TheVariants.{Delete, Select}
use Rattle.region_sql.specs.declared.row_statements.Term.{Term}
use Rattle.sql_eval.specs.Evaluation.{KeyedRow, Outcome, removals, rows_of}
use Rattle.sql_eval.specs.Execution.{count_answer, rows_answer}
use Rattle.sql_eval.specs.Reads.{Reads}
use Rattle.sql_eval.specs.RowWords.{shown_rows}
use Rattle.sql_eval.specs.Tables.{named}
use Rattle.planner.proofs.UpdateLemmas.{found_unchecked}
use Rattle.planner.specs.Phases.{found_outcome, rest_of_check, scanned_rows, terms_of}
use Rattle.planner.proofs.found_rows.found.Goals as goal

pub returns-in_ok-outcome-in-Select : goal.returns-in_ok-outcome-in-Select
returns-in_ok-outcome-in-Select c =
    let l = c.args.setting.now.layout in
    let n = named c.args.n.now in
    let t = c.args.n.now.table.now in
    let came : List Term → Outcome = λ terms. record { answer = rows_answer (shown_rows t c.in-Select.wanted (rows_of (scanned_rows t terms c.args.rows []))); writes = [] } in
    subst (λ (s : RowStatement). (reads : Reads) → found_outcome l reads n s (scanned_rows t (terms_of s) c.args.rows []) ≡ rest_of_check reads c.unchecked.result) (sym c.in-Select.is)
    (found_unchecked l n (Select c.in-Select.table c.in-Select.wanted c.in-Select.terms) (scanned_rows t c.in-Select.terms c.args.rows []) c.in_ok-outcome-in-Select.outcome (came c.in-Select.terms)
    c.unchecked.result c.unchecked.ensures (c.in_ok-outcome-in-Select.ensures ∙ ap came c.as_slice.ensures) (λ reads. refl))

pub returns-in_ok-outcome-in-Delete : goal.returns-in_ok-outcome-in-Delete
returns-in_ok-outcome-in-Delete c =
    let l = c.args.setting.now.layout in
    let n = named c.args.n.now in
    let t = c.args.n.now.table.now in
    let found : List Term → List KeyedRow = λ terms. scanned_rows t terms c.args.rows [] in
    let came : List Term → Outcome = λ terms. record { answer = count_answer verbs.Delete (length (found terms)); writes = removals l n (rows_of (found terms)) } in
    subst (λ (s : RowStatement). (reads : Reads) → found_outcome l reads n s (scanned_rows t (terms_of s) c.args.rows []) ≡ rest_of_check reads c.unchecked-in-Delete.result) (sym c.in-Delete.is)
    (found_unchecked l n (Delete c.in-Delete.table c.in-Delete.terms) (scanned_rows t c.in-Delete.terms c.args.rows []) c.in_ok-outcome-in-Delete.outcome (came c.in-Delete.terms)
    c.unchecked-in-Delete.result c.unchecked-in-Delete.ensures (c.in_ok-outcome-in-Delete.ensures ∙ ap came c.as_slice-terms.ensures) (λ reads. refl))
