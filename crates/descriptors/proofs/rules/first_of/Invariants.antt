use Rattle.std.proofs.Common.{◌≡◌, drop}
use Rattle.descriptors.specs.Refusals.{first_of}
use Rattle.descriptors.proofs.rules.first_of.Given as goal

abbrev pub invariant-loop-row : goal.invariant-loop-row
invariant-loop-row l = first_of l.rows ≡ first_of (drop l.row-index l.rows)
