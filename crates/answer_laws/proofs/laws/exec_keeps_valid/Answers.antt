use Rattle.answer_laws.proofs.ExecutedLists.{exec_keeps}
use Rattle.answer_laws.proofs.laws.exec_keeps_valid.Goals as goal

pub returns : goal.returns
returns c = exec_keeps
