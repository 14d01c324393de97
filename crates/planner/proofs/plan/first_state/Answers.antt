use Rattle.std.proofs.Common.{◌∙◌}
use Rattle.planner.proofs.PlanLemmas.{first_faulty, is_first}
use Rattle.planner.proofs.plan.first_state.Goals as goal

pub returns-in-Err-clause-state : goal.returns-in-Err-clause-state
returns-in-Err-clause-state c = λ s e. first_faulty s c.in-Err.state (e ∙ c.in-Err.is)

pub returns-in-Ok-clause-state : goal.returns-in-Ok-clause-state
returns-in-Ok-clause-state c = λ s e. is_first s c.new.result c.new-in-Ok.result c.new.ensures c.new-in-Ok.ensures
