use Rattle.std.proofs.Common.{◌≡◌, drop}
use Rattle.placement.specs.Tests.{rise}
use Rattle.placement.proofs.fitting.rise.Given as goal

abbrev pub invariant-loop-i : goal.invariant-loop-i
invariant-loop-i l = rise l.nodes ≡ rise (drop l.i l.nodes)
