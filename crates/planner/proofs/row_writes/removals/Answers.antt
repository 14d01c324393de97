use Rattle.std.proofs.Common.{List, rules, ◌++◌, ap, ◌∙◌}
use Rattle.sql_eval.specs.Evaluation.{removals}
use Rattle.sql_eval.specs.OwnWrites.{OwnWrite}
use Rattle.sql_eval.specs.Tables.{named}
use Rattle.planner.proofs.RowWriteLemmas.{are_partitions, table_is_sound}
use Rattle.planner.proofs.row_writes.removals.Goals as goal

pub push_rows-requires-clause-sound : goal.push_rows-requires-clause-sound
push_rows-requires-clause-sound c = table_is_sound c.args.setting.now c.args.name.now (named c.args.n.now) c.requires.sound c.requires.table

pub returns : goal.returns
returns c =
    let l = c.args.setting.now.layout in
    let n = named c.args.n.now in
    c.in_ok-push_rows.ensures l (are_partitions c.args.setting.now c.args.name.now n c.as_slice.result.now c.requires.sound c.requires.table (search rules))
    ∙ ap (λ (before : List OwnWrite). before ++ removals l n c.args.rows.now) c.new-writes.ensures
