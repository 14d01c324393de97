use Rattle.std.proofs.Common.{◌≡◌, true, take}
use Rattle.std.specs.List.{list_all, filter_map, enumerate_from}
use Rattle.row_locality.specs.Rows.{all_columns}
use Rattle.sql_eval.specs.RowWords.{is_in_range}
use Rattle.sql_eval.proofs.RowSteps.{changed_at}
use Rattle.sql_eval.proofs.rows.changed_row.Given as goal

abbrev pub invariant-loop-place : goal.invariant-loop-place
invariant-loop-place l = (l.changed ≡ filter_map (changed_at l.t l.targets l.old) (take l.place (enumerate_from 0 (all_columns l.t)))) × (list_all is_in_range l.changed ≡ true)
