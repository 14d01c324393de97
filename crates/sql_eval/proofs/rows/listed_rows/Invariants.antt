use Rattle.std.proofs.Common.{◌≡◌, map, take}
use Rattle.std.specs.List.{filter_map}
use Rattle.sql_eval.specs.RowWords.{value_in}
use Rattle.sql_eval.proofs.rows.listed_rows.Given as goal

abbrev pub invariant-loop-row : goal.invariant-loop-row
invariant-loop-row l = l.shown ≡ map (λ row. filter_map (value_in l.t row) l.names) (take l.row-index l.rows)
