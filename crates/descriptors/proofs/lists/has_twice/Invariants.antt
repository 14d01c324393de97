use Rattle.std.proofs.Common.{◌≡◌, drop}
use Rattle.descriptors.specs.Lists.{has_twice}
use Rattle.descriptors.proofs.lists.has_twice.Given as goal

abbrev pub invariant-loop-i : goal.invariant-loop-i
invariant-loop-i l = has_twice l.names ≡ has_twice (drop l.i l.names)
