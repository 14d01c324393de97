use Rattle.answer_laws.proofs.WrittenRanges.{writes_are_of_the_tables}
use Rattle.answer_laws.proofs.laws.writes_are_of_the_tables.Goals as goal

pub returns : goal.returns
returns c = writes_are_of_the_tables
