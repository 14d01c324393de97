use Rattle.std.proofs.Common.{arith}
use Rattle.scenario.proofs.WordLemmas.{power_below}
use Rattle.scenario.proofs.words.value_of.Goals as goal

pub overflow_mul-value : goal.overflow_mul-value
overflow_mul-value c = omega (arith, power_below c.loop-digit.digit-index (omega arith))

pub overflow_add-value : goal.overflow_add-value
overflow_add-value c = omega (arith, power_below c.loop-digit.digit-index (omega arith))
