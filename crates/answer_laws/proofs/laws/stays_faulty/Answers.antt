use Rattle.answer_laws.proofs.LawsOfNeeds.{stays_faulty}
use Rattle.answer_laws.proofs.laws.stays_faulty.Goals as goal

pub returns : goal.returns
returns c = stays_faulty
