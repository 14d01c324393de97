use Rattle.std.proofs.Common.{◌≡◌, ◌++◌, take}
use Rattle.std.specs.List.{flat_map}
use Rattle.journal_text.proofs.buffer.TextBuffer.add_joined.Given as goal

abbrev pub invariant-loop-item : goal.invariant-loop-item
invariant-loop-item g l =
    l.self ≡ l.initial.self ++ flat_map (λ y. l.between ++ g.T.Part.text y) (take l.item-index l.rest)
