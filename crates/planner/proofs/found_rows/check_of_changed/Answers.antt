use Rattle.sql_eval.specs.Tables.{named}
use Rattle.planner.proofs.RowWriteLemmas.{table_is_sound}
use Rattle.planner.proofs.found_rows.check_of_changed.Goals as goal

pub changed_row_lookups-requires-clause-sound : goal.changed_row_lookups-requires-clause-sound
changed_row_lookups-requires-clause-sound c = table_is_sound c.args.setting.now c.args.table.now (named c.args.n.now) c.requires.sound c.requires.table
