use Rattle.std.proofs.Common.{arith, refl}
use Rattle.zone_compile.proofs.forming.are_ones.Goals as goal

pub returns : goal.returns
returns c = (λ yes k d lt. c.loop-count.invariant k d (omega (arith, lt, c.loop-count-test.false)), λ h. refl)
