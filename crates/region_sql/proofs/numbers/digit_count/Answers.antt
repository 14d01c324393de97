use Rattle.region_sql.proofs.Bytes.{few_digits}
use Rattle.region_sql.proofs.numbers.digit_count.Goals as goal

pub returns-clause-value : goal.returns-clause-value
returns-clause-value c = rw (c.run_len.ensures.value, c.split_at.ensures.front, c.min.ensures) (few_digits c.args.bytes.now)
