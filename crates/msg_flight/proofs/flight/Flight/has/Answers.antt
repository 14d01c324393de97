use Rattle.msg_flight.proofs.FiledLemmas.{is_among}
use Rattle.msg_flight.proofs.flight.Flight.has.Goals as goal

pub returns : goal.returns
returns c =
    let among = is_among c.args.m c.self.inside.places.items c.self.inside.table.entries c.self.invariant.filed in
    rw (← c.self.view_is, among, ← c.contains_key.ensures) (λ h. h, λ h. h)
