use Rattle.std.proofs.Common.{List, ap, ◌∙◌}
use Rattle.mr_base.specs.declared.rows.Datum.{Datum}
use Rattle.sql_eval.specs.Execution.{rows_answer}
use Rattle.sql_eval.specs.RowWords.{shown_rows}
use Rattle.planner.proofs.UpdateLemmas.{all_match}
use Rattle.planner.proofs.found_rows.found_select.Goals as goal

pub returns : goal.returns
returns c =
    let answer =
    c.in_ok-answer.ensures.answer
    ∙ ap (λ (rows : List (List Datum)). rows_answer (shown_rows c.args.t.now c.args.wanted.now rows))
    (all_match c.args.t.now c.args.terms.now c.args.rows c.into_matching.result c.as_slice.result.now c.into_matching.ensures (c.as_slice.ensures ∙ c.in_ok-found.ensures)) in
    λ i. record { answer = answer i; writes = c.new.ensures i }
