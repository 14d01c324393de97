use Rattle.answer_laws.proofs.WholeLists.{evaluation_executed}
use Rattle.answer_laws.proofs.laws.evaluation_is_executed.Goals as goal

pub returns : goal.returns
returns c = evaluation_executed
