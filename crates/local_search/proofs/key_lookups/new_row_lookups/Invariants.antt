use Rattle.std.proofs.Common.{◌≡◌, take}
use Rattle.std.specs.Prelude.{flat_map}
use Rattle.std.specs.List.{enumerate_from}
use Rattle.row_locality.specs.Rows.{indexes}
use Rattle.sql_eval.specs.Lookups.{key_lookups}
use Rattle.local_search.proofs.key_lookups.new_row_lookups.Given as goal

abbrev pub invariant-loop-row : goal.invariant-loop-row
invariant-loop-row l = l.lookups ≡ flat_map (key_lookups l.t l.partitions (enumerate_from 0 (indexes l.t))) (take l.row-index l.rows)
