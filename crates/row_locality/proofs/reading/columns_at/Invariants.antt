use Rattle.std.proofs.Common.{◌≡◌, [], drop}
use Rattle.row_locality.specs.Reading.{columns_at}
use Rattle.row_locality.proofs.reading.columns_at.Given as goal

abbrev pub invariant-loop-column : goal.invariant-loop-column
invariant-loop-column l = columns_at l.row.items l.rest (drop l.column-index l.columns) ≡ columns_at [] l.bytes l.columns
