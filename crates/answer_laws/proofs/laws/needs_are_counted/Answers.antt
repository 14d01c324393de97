use Rattle.answer_laws.proofs.LawsOfNeeds.{needs_are_counted}
use Rattle.answer_laws.proofs.laws.needs_are_counted.Goals as goal

pub returns : goal.returns
returns c = needs_are_counted
