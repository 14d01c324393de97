use Rattle.std.proofs.Common.{◌≡◌, take}
use Rattle.std.specs.List.{filter_map}
use Rattle.sql_eval.specs.RowWords.{value_in}
use Rattle.sql_eval.proofs.rows.listed_columns.Given as goal

abbrev pub invariant-loop-name : goal.invariant-loop-name
invariant-loop-name l = l.shown ≡ filter_map (value_in l.t l.row) (take l.name-index l.names)
