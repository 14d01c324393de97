use Rattle.std.proofs.Common.{map, take}
use Rattle.descriptors.specs.Sound.{AreDistinct}
use Rattle.zone_compile.proofs.forming.are_distinct.Given as goal

abbrev pub invariant-loop-i : goal.invariant-loop-i
invariant-loop-i l = AreDistinct (map (λ k. k.0) (take l.i l.counts))
