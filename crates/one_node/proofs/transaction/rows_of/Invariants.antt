use Rattle.std.proofs.Common.{◌≡◌, ◌++◌}
use Rattle.std.specs.Prelude.{map}
use Rattle.row_locality.specs.OneColumnDatabases.{row_with}
use Rattle.one_node.proofs.transaction.rows_of.Given as goal

abbrev pub invariant-loop-id : goal.invariant-loop-id
invariant-loop-id l = l.rows.items ++ map row_with l.id-iterator ≡ map row_with l.ids.keys
