use Rattle.std.proofs.Common.{List, sym, ap, ◌∙◌}
use Rattle.std.specs.Prelude.{slice_get}
use Rattle.mr_base.specs.declared.script.Fed.{Fed}
use Rattle.planner.proofs.CoveringLemmas.{found_elsewhere, found_there}
use Rattle.planner.specs.Numbered.{first_covering, those_numbered}
use Rattle.planner.proofs.known_spans.KnownSpans.first_covering.Goals as goal

pub returns-in-Some : goal.returns-in-Some
returns-in-Some c =
    found_there c.self.inside.fed.items c.args.self.now c.self.inside.numbers.points.entries c.self.inside.numbers.wide.items c.args.ask.now c.in_ok-clone_in.field-0 _ _
    c.self.invariant c.self.view_is (sym c.is_point.ensures ∙ c.if-not-is_point.false) c.in_ok-clone_in.ensures.copy c.in-Some.ensures.value (c.fed_at.ensures ∙ ap (λ (l : List Fed). slice_get l c.in-Some.number.now) c.as_slice-in-Some.ensures.value)

pub returns : goal.returns
returns c =
    found_elsewhere c.self.inside.fed.items c.args.self.now c.self.inside.numbers.points.entries c.self.inside.numbers.wide.items c.args.ask.now c.in_ok-clone_in.field-0 _
    c.self.invariant c.self.view_is (sym c.is_point.ensures ∙ c.if-not-is_point.false) c.in_ok-clone_in.ensures.copy c.in-None.ensures.value
    (c.first_numbered.ensures ∙ (λ i. first_covering c.args.ask.now (those_numbered (c.as_slice-in-None.ensures.value i) (c.as_slice-in-None-2.ensures.value i))))
