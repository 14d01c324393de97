use Rattle.std.proofs.Common.{◌≡◌, ◌++◌, take}
use Rattle.placement.proofs.fitting.joined.Given as goal

abbrev pub invariant-loop-node : goal.invariant-loop-node
invariant-loop-node l = l.all ≡ l.first ++ take l.node-index l.second
