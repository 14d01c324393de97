use Rattle.msg_flight.proofs.FiledLemmas.{length-messages_of}
use Rattle.msg_flight.proofs.TakenLemmas.{in_order}
use Rattle.msg_flight.proofs.flight.Flight.len.Goals as goal

pub returns-clause-count : goal.returns-clause-count
returns-clause-count c =
    rw (← c.self.view_is, length-messages_of c.self.inside.places.items c.self.inside.table.entries c.self.invariant.filed) c.len.ensures.len

pub returns-clause-in_order : goal.returns-clause-in_order
returns-clause-in_order c =
    rw (← c.self.view_is) (in_order c.self.inside.places.items c.self.inside.table.entries c.self.invariant.filed c.self.invariant.sorted)
