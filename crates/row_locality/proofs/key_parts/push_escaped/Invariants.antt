use Rattle.std.proofs.Common.{◌≡◌, ◌++◌, take}
use Rattle.std.specs.List.{flat_map}
use Rattle.row_locality.specs.Keys.{escaped_byte}
use Rattle.row_locality.proofs.key_parts.push_escaped.Given as goal

abbrev pub invariant-loop-b : goal.invariant-loop-b
invariant-loop-b l = l.bytes.items ≡ l.fn.bytes.items ++ flat_map escaped_byte (take l.b-index l.text)
