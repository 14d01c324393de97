use Rattle.std.proofs.Common.{rules}
use Rattle.sql_eval.specs.Tables.{named}
use Rattle.planner.proofs.InsertLemmas.{insert_checked, insert_faulty, made_are_rows}
use Rattle.planner.proofs.inserts.begin_insert.Goals as goal

pub returns-in-Err-State : goal.returns-in-Err-State
returns-in-Err-State c =
    insert_faulty c.args.setting.now.layout c.args.setting.now.region (named c.args.n.now) c.args.table.now c.args.columns.now c.args.rows.now c.requires.checked _ (search rules)

pub check_of_made-requires-clause-made : goal.check_of_made-requires-clause-made
check_of_made-requires-clause-made c =
    made_are_rows c.args.setting.now (named c.args.n.now) c.args.setting.now.region c.args.table.now c.args.columns.now c.args.rows.now c.as_slice.result.now
    c.requires.sound c.requires.table c.requires.texts c.requires.checked (search rules)

pub returns : goal.returns
returns c = (
  tt,
  tt,
  insert_checked c.args.setting.now.layout c.args.setting.now.region (named c.args.n.now) c.args.table.now c.args.columns.now c.args.rows.now c.requires.checked c.as_slice.result.now
      c.in-Ok.changes.answer c.in_ok-check.check (search rules) (search rules) c.in_ok-check.ensures,
)
