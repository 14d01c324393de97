use Rattle.std.proofs.Common.{◌≡◌, List, [], filter, length, rules, ap, ◌∙◌}
use Rattle.mr_base.specs.declared.results.Verb.TheVariants as verbs
use Rattle.mr_base.specs.declared.rows.Datum.{Datum}
use Rattle.sql_eval.specs.Evaluation.{removals}
use Rattle.sql_eval.specs.Execution.{count_answer}
use Rattle.sql_eval.specs.RowWords.{matches}
use Rattle.sql_eval.specs.Tables.{named}
use Rattle.planner.proofs.UpdateLemmas.{all_match, count_of, found_are_rows}
use Rattle.planner.specs.Phases.{scanned_rows}
use Rattle.planner.proofs.found_rows.found_delete.Goals as goal

pub removals-requires-clause-rows : goal.removals-requires-clause-rows
removals-requires-clause-rows c =
    let old : c.as_slice-2.result.now ≡ filter (matches c.args.n.now.table.now c.args.terms.now) c.as_slice.result.now = search rules in
    found_are_rows c.args.setting.now.layout.catalog c.args.n.now.table.now c.args.terms.now c.args.rows c.as_slice-2.result.now c.requires.rows
    (old ∙ all_match c.args.n.now.table.now c.args.terms.now c.args.rows c.into_matching.result c.as_slice.result.now c.into_matching.ensures (c.as_slice.ensures ∙ c.in_ok-found.ensures))

pub returns : goal.returns
returns c =
    let found = scanned_rows c.args.n.now.table.now c.args.terms.now c.args.rows [] in
    let all =
    all_match c.args.n.now.table.now c.args.terms.now c.args.rows c.into_matching.result c.as_slice.result.now c.into_matching.ensures (c.as_slice.ensures ∙ c.in_ok-found.ensures) in
    let old : c.as_slice-2.result.now ≡ filter (matches c.args.n.now.table.now c.args.terms.now) c.as_slice.result.now = search rules in
    let answer : c.in_ok-answer.field-0.answer ≡ count_answer verbs.Delete (length found) =
    c.in_ok-answer.ensures.answer
    ∙ ap (λ (rows : List (List Datum)). count_answer verbs.Delete (length rows)) (c.in_ok-answer.ensures.old ∙ all)
    ∙ ap (count_answer verbs.Delete) (count_of found) in
    let writes = c.in_ok-writes.ensures ∙ ap (removals c.args.setting.now.layout (named c.args.n.now)) (old ∙ all) in
    λ i. record { answer = answer i; writes = writes i }
