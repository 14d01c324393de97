use Rattle.answer_laws.proofs.LawsOfNeeds.{answers_bring_nearer}
use Rattle.answer_laws.proofs.laws.answers_bring_nearer.Goals as goal

pub returns : goal.returns
returns c = answers_bring_nearer
