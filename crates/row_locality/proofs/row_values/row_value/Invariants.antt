use Rattle.std.proofs.Common.{◌≡◌, take}
use Rattle.std.specs.List.{flat_map}
use Rattle.row_locality.specs.Values.{value_part}
use Rattle.row_locality.proofs.row_values.row_value.Given as goal

abbrev pub invariant-loop-v : goal.invariant-loop-v
invariant-loop-v l = l.bytes.items ≡ flat_map value_part (take l.v-index l.columns)
