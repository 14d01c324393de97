use Rattle.std.proofs.Common.{◌≡◌, ◌≤◌, take}
use Rattle.journal_text.specs.CountsText.{count_of}
use Rattle.journal_text.proofs.counts.count_of.Given as goal

abbrev pub invariant-loop-entry : goal.invariant-loop-entry
invariant-loop-entry l = (l.count ≡ count_of l.counted (take l.entry-index l.entries)) × (l.count ≤ l.entry-index)
