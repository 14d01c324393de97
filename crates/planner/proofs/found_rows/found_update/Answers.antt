use Rattle.std.proofs.Common.{filter, rules, ◌∙◌}
use Rattle.sql_eval.specs.RowWords.{matches}
use Rattle.sql_eval.specs.Tables.{named}
use Rattle.planner.proofs.UpdateLemmas.{all_match, changed_are_rows, found_are_rows, update_checked, update_faulty}
use Rattle.planner.proofs.found_rows.found_update.Goals as goal

pub returns-in-Err-State : goal.returns-in-Err-State
returns-in-Err-State c =
    update_faulty c.args.setting.now.layout (named c.args.n.now) c.args.table.now c.args.targets.now c.args.terms.now c.args.rows
    (filter (matches c.args.n.now.table.now c.args.terms.now) c.as_slice.result.now)
    (all_match c.args.n.now.table.now c.args.terms.now c.args.rows c.into_matching-found.result c.as_slice.result.now c.into_matching-found.ensures (search rules)) _ (search rules)

pub check_of_changed-requires-clause-old : goal.check_of_changed-requires-clause-old
check_of_changed-requires-clause-old c =
    found_are_rows c.args.setting.now.layout.catalog c.args.n.now.table.now c.args.terms.now c.args.rows c.in-Ok.changes.old c.requires.rows
    (c.in-Ok.ensures.old ∙ all_match c.args.n.now.table.now c.args.terms.now c.args.rows c.into_matching-found.result c.as_slice.result.now c.into_matching-found.ensures (search rules))

pub check_of_changed-requires-clause-new : goal.check_of_changed-requires-clause-new
check_of_changed-requires-clause-new c =
    changed_are_rows c.args.setting.now (named c.args.n.now) c.args.table.now c.args.targets.now c.args.terms.now c.in-Ok.changes.old c.in-Ok.changes.new
    c.requires.sound c.requires.table c.requires.texts c.requires.checked
    (found_are_rows c.args.setting.now.layout.catalog c.args.n.now.table.now c.args.terms.now c.args.rows c.in-Ok.changes.old c.requires.rows
    (c.in-Ok.ensures.old ∙ all_match c.args.n.now.table.now c.args.terms.now c.args.rows c.into_matching-found.result c.as_slice.result.now c.into_matching-found.ensures (search rules)))
    c.in-Ok.ensures.new

pub returns : goal.returns
returns c =
    update_checked c.args.setting.now.layout (named c.args.n.now) c.args.table.now c.args.targets.now c.args.terms.now c.args.rows c.in-Ok.changes.old
    (c.in-Ok.ensures.old ∙ all_match c.args.n.now.table.now c.args.terms.now c.args.rows c.into_matching-found.result c.as_slice.result.now c.into_matching-found.ensures (search rules))
    c.in-Ok.changes.new c.in-Ok.changes.answer c.into_matching-found.result c.in_ok-check.check c.in-Ok.ensures.new c.in-Ok.ensures.answer c.into_matching-found.ensures c.in_ok-check.ensures
