use Rattle.std.proofs.Common.{◌≡◌, true, take}
use Rattle.std.specs.List.{list_all, filter_map}
use Rattle.row_locality.specs.Rows.{all_columns}
use Rattle.sql_eval.specs.RowWords.{is_in_range}
use Rattle.sql_eval.proofs.RowSteps.{made_at}
use Rattle.sql_eval.proofs.rows.made_row.Given as goal

abbrev pub invariant-loop-place : goal.invariant-loop-place
invariant-loop-place l = (l.made ≡ filter_map (made_at l.region l.names l.row) (take l.place (all_columns l.t))) × (list_all is_in_range l.made ≡ true)
