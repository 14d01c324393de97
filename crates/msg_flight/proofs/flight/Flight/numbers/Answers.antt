use Rattle.std.proofs.Common.{◌≡◌, ◌∙◌, IfOk, List, ap, map, subst}
use Rattle.mr_base.specs.declared.ids.MsgId.{MsgId}
use Rattle.mr_base.specs.declared.messages.Message.{Message}
use Rattle.msg_flight.specs.Value.{FlightValue}
use Rattle.msg_flight.proofs.FiledLemmas.{numbers_are}
use Rattle.msg_flight.proofs.flight.Flight.numbers.Goals as goal

pub returns : goal.returns
returns c =
    subst (λ (ids : List MsgId). IfOk c.numbers_in.result (λ numbers. numbers ≡ ids))
    (numbers_are c.self.inside.places.items c.self.inside.table.entries c.self.invariant.filed
    ∙ ap (λ (v : FlightValue). map (λ (m : Message). m.id) v.messages) c.self.view_is)
    c.numbers_in.ensures
