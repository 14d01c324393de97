use Rattle.std.proofs.Common.{◌≡◌, ◌++◌, ◌∷◌, [], List, length, sym, ap, subst, ◌∙◌}
use Rattle.std.specs.Prelude.{None}
use Rattle.mr_base.specs.Scripts.{fed_with}
use Rattle.mr_base.specs.declared.script.Fed.{Fed}
use Rattle.planner.proofs.ServedLemmas.{none_covers}
use Rattle.planner.specs.Numbered.{AreNumbered, first_covering}
use Rattle.planner.proofs.known_spans.KnownSpans.add.Goals as goal

pub invariant_of-self-2 : goal.invariant_of-self-2
invariant_of-self-2 c =
    let known = c.self.inside.fed.items in
    let none : first_covering c.args.ask.now known ≡ None =
    subst (λ (l : List Fed). first_covering c.args.ask.now l ≡ None) (sym c.self.view_is) (none_covers c.args.self.now c.args.ask.now c.requires) in
    let grown : c.push_reserved.new.self.items ≡ known ++ fed_with c.args.ask.now c.args.rows.now ∷ [] =
    c.push_reserved.ensures.items ∙ (λ i. c.in_ok-reserve.ensures.items i ++ record { ask = c.in_ok-clone_in.ensures.copy i; rows = c.in_ok-copy_of.ensures i } ∷ []) in
    subst (λ (l : List Fed). AreNumbered l c.add.new.self.points.entries c.add.new.self.wide.items) (sym grown)
    (c.in_ok-add.ensures.ok known c.args.rows.now c.self.invariant (ap length (c.as_slice-number.ensures.value ∙ c.in_ok-reserve.ensures.items)) none)
