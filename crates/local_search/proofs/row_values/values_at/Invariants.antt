use Rattle.std.proofs.Common.{◌≡◌, take}
use Rattle.row_locality.specs.Rows.{values_at}
use Rattle.local_search.proofs.row_values.values_at.Given as goal

abbrev pub invariant-loop-place : goal.invariant-loop-place
invariant-loop-place l = l.values.items ≡ values_at (take l.place-index l.places) l.row
