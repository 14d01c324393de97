use Rattle.std.proofs.Common.{arith}
use Rattle.region_sql.proofs.Bytes.{run_digits}
use Rattle.region_sql.proofs.numbers.digits_at.Goals as goal

pub number_of-requires-clause-digits : goal.number_of-requires-clause-digits
number_of-requires-clause-digits c = run_digits c.args.bytes.now c.split_at.result.0.now c.digit_count.result (omega arith) c.split_at.ensures.front
