use Rattle.std.proofs.Common.{◌≡◌, rules, subst}
use Rattle.std.specs.Prelude.{None}
use Rattle.region_sql.specs.TextLiterals.{TextsAreUtf8}
use Rattle.region_sql.specs.declared.row_statements.RowStatement.{RowStatement}
use Rattle.sql_eval.specs.Faults.{check_fault}
use Rattle.sql_eval.specs.Tables.{named}
use Rattle.local_search.proofs.TypedTerms.{select_is_typed}
use Rattle.planner.proofs.RowWriteLemmas.{table_is_sound}
use Rattle.planner.proofs.fresh_spans.fresh_asks_on.Goals as goal

pub fresh_asks_in-requires-clause-sound : goal.fresh_asks_in-requires-clause-sound
fresh_asks_in-requires-clause-sound c = table_is_sound c.args.setting.now c.args.table.now (named c.args.n.now) c.requires.sound c.requires.table

pub fresh_asks_in-requires-clause-typed : goal.fresh_asks_in-requires-clause-typed
fresh_asks_in-requires-clause-typed c =
    let t = c.args.n.now.table.now in
    let d = c.args.n.now.database.now in
    let free : check_fault t d c.args.one.now ≡ None = search rules in
    select_is_typed t d c.args.table.now c.requires.select.0 c.args.terms.now
    (subst (λ (s : RowStatement). check_fault t d s ≡ None) c.requires.select.1 free)
    (subst TextsAreUtf8 c.requires.select.1 c.requires.texts)
