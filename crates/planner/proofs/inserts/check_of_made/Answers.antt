use Rattle.sql_eval.specs.Tables.{named}
use Rattle.planner.proofs.RowWriteLemmas.{table_is_sound}
use Rattle.planner.proofs.inserts.check_of_made.Goals as goal

pub new_row_lookups-requires-clause-sound : goal.new_row_lookups-requires-clause-sound
new_row_lookups-requires-clause-sound c = table_is_sound c.args.setting.now c.args.table.now (named c.args.n.now) c.requires.sound c.requires.table
