use Rattle.std.proofs.Common.{◌+◌, ◌<◌, subst}
use Rattle.mr_base.specs.Scripts.{AsksFor}
use Rattle.sql_eval.specs.NextSpan.{asks_after, phases_after}
use Rattle.planner.proofs.PlanLemmas.{counted}
use Rattle.planner.specs.Plans.{Planned}
use Rattle.planner.proofs.plan.PlanScript.need.Goals as goal

pub returns-clause-ends : goal.returns-clause-ends
returns-clause-ends c =
    subst (λ (p : Planned). AsksFor c.in_ok-state.need → 0 < phases_after p.setting p.fed + asks_after p.setting p.fed) c.self.view_is
    (counted c.self.inside.setting c.self.inside.known c.in_ok-state.need c.in_ok-state.ensures.need)
