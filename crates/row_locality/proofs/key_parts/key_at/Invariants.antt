use Rattle.std.proofs.Common.{◌≡◌, take}
use Rattle.row_locality.specs.Rows.{values_at}
use Rattle.row_locality.specs.Keys.{index_key}
use Rattle.row_locality.proofs.key_parts.key_at.Given as goal

abbrev pub invariant-loop-place : goal.invariant-loop-place
invariant-loop-place l = l.bytes.items ≡ index_key l.number (values_at (take l.place-index l.places) l.row)
