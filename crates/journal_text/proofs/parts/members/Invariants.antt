use Rattle.std.proofs.Common.{◌≡◌}
use Rattle.journal_text.specs.Text.{members_to}
use Rattle.journal_text.proofs.parts.members.Given as goal

abbrev pub invariant-loop-index : goal.invariant-loop-index
invariant-loop-index l = l.nodes.items ≡ members_to l.index l.set
