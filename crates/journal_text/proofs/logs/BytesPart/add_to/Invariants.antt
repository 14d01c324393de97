use Rattle.std.proofs.Common.{◌≡◌, ◌++◌, take}
use Rattle.std.specs.List.{flat_map}
use Rattle.journal_text.specs.LogText.{hex_byte}
use Rattle.journal_text.proofs.logs.BytesPart.add_to.Given as goal

abbrev pub invariant-loop-byte : goal.invariant-loop-byte
invariant-loop-byte l = l.line ≡ l.initial.line ++ flat_map hex_byte (take l.byte-index l.byte-items)
