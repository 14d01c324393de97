use Rattle.std.proofs.Common.{sym, ◌∙◌}
use Rattle.mr_base.specs.Scripts.{fed_with}
use Rattle.planner.proofs.CoveringLemmas.{added_point, added_wide}
use Rattle.planner.proofs.known_spans.Numbers.add.Goals as goal

pub returns-then-not-is_point-clause-ok : goal.returns-then-not-is_point-clause-ok
returns-then-not-is_point-clause-ok c = λ fed rows n number none.
    added_wide fed c.args.self.now.points.entries c.args.self.now.wide.items _ (fed_with c.args.ask.now rows) c.args.number n number c.in_ok-push.ensures.items

pub returns-clause-ok : goal.returns-clause-ok
returns-clause-ok c = λ fed rows n number none.
    added_point fed c.args.self.now.points.entries _ c.args.self.now.wide.items c.args.ask.now rows c.in_ok-clone_in.field-0 c.args.number n
    (sym c.is_point.ensures ∙ c.if-not-is_point.false) number c.in_ok-clone_in.ensures.copy none c.in_ok-insert.ensures.entries
