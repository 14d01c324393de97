use Rattle.std.proofs.Common.{List, sym, subst, ◌∙◌}
use Rattle.mr_base.specs.declared.script.Fed.{Fed}
use Rattle.planner.proofs.PlanLemmas.{sound_setting}
use Rattle.planner.specs.Progress.{IsStateOf}
use Rattle.planner.proofs.plan.Plan.new.Goals as goal

pub invariant_of-result : goal.invariant_of-result
invariant_of-result c = (
  sound_setting c.new-setting.result c.args.catalog.now c.args.first_ranges.now c.args.list
      (c.new-setting.ensures.catalog ∙ c.in_ok-clone_in.ensures.copy) (c.new-setting.ensures.first_ranges ∙ c.in_ok-copy_of.ensures) c.new-setting.ensures.list
      c.tables.ensures.sound c.requires.ranges c.requires.texts,
  subst (λ (l : List Fed). IsStateOf c.new-setting.result l c.first_state-state.result) (sym c.new.ensures)
      (c.first_state-state.ensures.state c.new-setting.result (sym c.list.ensures)),
)
