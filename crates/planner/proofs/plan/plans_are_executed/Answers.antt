use Rattle.planner.proofs.PlanLemmas.{plans_are_executed}
use Rattle.planner.proofs.plan.plans_are_executed.Goals as goal

pub returns : goal.returns
returns c = plans_are_executed
