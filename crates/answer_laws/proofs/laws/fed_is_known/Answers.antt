use Rattle.answer_laws.proofs.LawsOfNeeds.{fed_is_known}
use Rattle.answer_laws.proofs.laws.fed_is_known.Goals as goal

pub returns : goal.returns
returns c = fed_is_known
