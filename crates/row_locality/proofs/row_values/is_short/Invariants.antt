use Rattle.std.proofs.Common.{◌≡◌, ◌+◌, length, take}
use Rattle.std.specs.List.{flat_map}
use Rattle.row_locality.specs.Values.{value_part}
use Rattle.row_locality.proofs.row_values.is_short.Given as goal

abbrev pub invariant-loop-v : goal.invariant-loop-v
invariant-loop-v l = l.room + length (flat_map value_part (take l.v-index l.columns)) ≡ 1024
