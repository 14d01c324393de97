use Rattle.std.proofs.Common.{◌≡◌, ◌++◌, take}
use Rattle.std.specs.List.{flat_map}
use Rattle.journal_text.specs.Text.{quoted_byte}
use Rattle.journal_text.proofs.parts.add_quoted.Given as goal

abbrev pub invariant-loop-byte : goal.invariant-loop-byte
invariant-loop-byte l =
    l.line ≡ l.initial.line ++ flat_map quoted_byte (take l.byte-index l.bytes)
