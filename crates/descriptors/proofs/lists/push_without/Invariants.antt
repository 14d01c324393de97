use Rattle.std.proofs.Common.{◌≡◌, ◌++◌, take}
use Rattle.descriptors.specs.Lists.{without}
use Rattle.descriptors.proofs.lists.push_without.Given as goal

abbrev pub invariant-loop-n : goal.invariant-loop-n
invariant-loop-n l = l.list ≡ l.fn.list ++ without l.name (take l.n-index l.names)
