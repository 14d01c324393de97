use Rattle.std.proofs.Common.{◌≡◌, ◌≤◌, ◌+◌, drop, length}
use Rattle.descriptors.specs.Lists.{without}
use Rattle.descriptors.proofs.rules.count_without.Given as goal

abbrev pub invariant-loop-n : goal.invariant-loop-n
invariant-loop-n l = (l.others ≤ l.n-index) × (l.others + length (without l.name (drop l.n-index l.names)) ≡ length (without l.name l.names))
