use Rattle.std.proofs.Common.{◌≡◌, take}
use Rattle.row_locality.specs.Keys.{index_key}
use Rattle.row_locality.proofs.key_parts.key_of_values.Given as goal

abbrev pub invariant-loop-v : goal.invariant-loop-v
invariant-loop-v l = l.bytes.items ≡ index_key l.number (take l.v-index l.values)
