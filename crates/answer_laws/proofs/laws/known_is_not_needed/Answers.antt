use Rattle.answer_laws.proofs.LawsOfNeeds.{known_is_not_needed}
use Rattle.answer_laws.proofs.laws.known_is_not_needed.Goals as goal

pub returns : goal.returns
returns c = known_is_not_needed
