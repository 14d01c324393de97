use Rattle.std.proofs.Common.{ap, length, slice_get, sym, ◌∙◌}
use Rattle.msg_flight.proofs.FiledLemmas.{filed_above, first_is, messages_of-above, none_is_first}
use Rattle.msg_flight.proofs.flight.Flight.after.Goals as goal

pub returns-in-Some : goal.returns-in-Some
returns-in-Some c =
    let places = c.self.inside.places.items in
    let es = c.self.inside.table.entries in
    let above = messages_of-above c.args.m places es c.self.invariant.filed in
    let e = sym (c.range.ensures.between tt) ∙ c.in-Some.ensures.steps in
    rw (← c.self.view_is, ← above)
    (sym (first_is places _ (c.in-Some.number.now, c.in-Some.field-0-1.now) (filed_above c.args.m.0 places es c.self.invariant.filed) (ap (λ xs. slice_get xs 0) e)))

pub returns-in-None : goal.returns-in-None
returns-in-None c =
    let places = c.self.inside.places.items in
    let es = c.self.inside.table.entries in
    let above = messages_of-above c.args.m places es c.self.invariant.filed in
    let e = sym (c.range.ensures.between tt) ∙ c.in-None.ensures.steps.0 in
    rw (← c.self.view_is, ← above) (sym (none_is_first places _ (ap length e)))
