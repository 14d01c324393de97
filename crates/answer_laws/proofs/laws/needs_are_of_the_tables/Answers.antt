use Rattle.answer_laws.proofs.LawsOfNeeds.{needs_are_of_the_tables}
use Rattle.answer_laws.proofs.laws.needs_are_of_the_tables.Goals as goal

pub returns : goal.returns
returns c = needs_are_of_the_tables
