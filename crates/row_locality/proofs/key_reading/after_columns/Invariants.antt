use Rattle.std.proofs.Common.{◌≡◌, drop}
use Rattle.row_locality.specs.Keys.{types_at}
use Rattle.row_locality.specs.KeyPieces.{rest_of_parts}
use Rattle.row_locality.proofs.key_reading.after_columns.Given as goal

abbrev pub invariant-loop-place : goal.invariant-loop-place
invariant-loop-place l = rest_of_parts l.rest (types_at l.t (drop l.place-index l.places)) ≡ rest_of_parts l.bytes (types_at l.t l.places)
