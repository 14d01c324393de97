use Rattle.std.proofs.Common.{arith}
use Rattle.region_sql.proofs.Bytes.{power_below}
use Rattle.region_sql.proofs.numbers.number_of.Goals as goal

pub overflow_mul-number : goal.overflow_mul-number
overflow_mul-number c = omega (arith, power_below c.loop-digit.digit-index (omega arith))

pub overflow_add-number : goal.overflow_add-number
overflow_add-number c = omega (arith, power_below c.loop-digit.digit-index (omega arith))

pub returns-clause-bound : goal.returns-clause-bound
returns-clause-bound c = omega (arith, power_below c.loop-digit.digit-index (omega arith))
