use Rattle.std.proofs.Common.{sym}
use Rattle.msg_flight.proofs.FiledLemmas.{first_is}
use Rattle.msg_flight.proofs.flight.Flight.head.Goals as goal

pub returns-in-Some : goal.returns-in-Some
returns-in-Some c =
    rw (← c.self.view_is) (sym (first_is c.self.inside.places.items c.self.inside.table.entries (c.in-Some.number.now, c.in-Some.field-0-1.now) c.self.invariant.filed c.in-Some.ensures.first))
