use Rattle.std.proofs.Common.{List, sym, subst}
use Rattle.mr_base.specs.declared.script.Fed.{Fed}
use Rattle.planner.specs.Progress.{IsStateOf}
use Rattle.planner.proofs.plan.PlanScript.restart.Goals as goal

pub invariant_of-self : goal.invariant_of-self
invariant_of-self c = (
  c.self.invariant.0,
  subst (λ (l : List Fed). IsStateOf c.self.inside.setting l c.first_state.result) (sym c.new.ensures)
      (c.first_state.ensures.state c.self.inside.setting (sym c.list.ensures)),
)
