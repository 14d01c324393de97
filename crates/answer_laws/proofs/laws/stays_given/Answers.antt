use Rattle.answer_laws.proofs.LawsOfNeeds.{stays_given}
use Rattle.answer_laws.proofs.laws.stays_given.Goals as goal

pub returns : goal.returns
returns c = stays_given
