use Rattle.std.proofs.Common.{◌≡◌, sym, subst}
use Rattle.std.specs.Prelude.{OnOk}
use Rattle.mr_base.specs.Scripts.{IsNearer}
use Rattle.mr_base.specs.declared.script.Need.TheVariants.{Ask as AskFor}
use Rattle.sql_eval.specs.Evaluation.{evaluation}
use Rattle.sql_eval.specs.NextSpan.{asks_after, need_of, phases_after}
use Rattle.sql_eval.specs.Reads.{served_reads}
use Rattle.planner.proofs.PlanLemmas.{nearer_after, state_after, unknown}
use Rattle.planner.specs.Plans.{Planned}
use Rattle.planner.proofs.plan.PlanScript.feed.Goals as goal

pub add-requires : goal.add-requires
add-requires c =
    unknown c.self.inside.setting c.self.inside.known c.args.ask.now
    (subst (λ (p : Planned). need_of (evaluation p.setting (served_reads p.fed)) ≡ AskFor c.args.ask.now) (sym c.self.view_is) c.requires)

pub invariant_of-self : goal.invariant_of-self
invariant_of-self c =
    let need : need_of (evaluation c.self.inside.setting (served_reads c.self.inside.known)) ≡ AskFor c.args.ask.now =
    subst (λ (p : Planned). need_of (evaluation p.setting (served_reads p.fed)) ≡ AskFor c.args.ask.now) (sym c.self.view_is) c.requires in (
      c.self.invariant.0,
      state_after c.self.inside.setting c.self.inside.known c.add.new.self c.args.ask.now c.args.rows.now need c.add.result c.self.inside.state
          c.add.ensures.added c.add.ensures.err c.self.invariant.1,
    )

pub returns-clause-nearer : goal.returns-clause-nearer
returns-clause-nearer c =
    let need : need_of (evaluation c.self.inside.setting (served_reads c.self.inside.known)) ≡ AskFor c.args.ask.now =
    subst (λ (p : Planned). need_of (evaluation p.setting (served_reads p.fed)) ≡ AskFor c.args.ask.now) (sym c.self.view_is) c.requires in
    subst
    (λ (p : Planned). OnOk c.add.result (IsNearer (phases_after p.setting p.fed) (asks_after p.setting p.fed)
    (phases_after c.self.inside.setting c.add.new.self) (asks_after c.self.inside.setting c.add.new.self)))
    c.self.view_is
    (nearer_after c.self.inside.setting c.self.inside.known c.add.new.self c.args.ask.now c.args.rows.now need c.add.result c.add.ensures.added)
