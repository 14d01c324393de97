use Rattle.std.proofs.Common.{None, arith, refl, sym}
use Rattle.std.proofs.lemmas.List.{get_or_read}
use Rattle.msg_flight.proofs.FiledLemmas.{find_is}
use Rattle.msg_flight.proofs.TakenLemmas.{messages_of-remove_entry, place_of, taken}
use Rattle.msg_flight.proofs.flight.Flight.take.Goals as goal

pub returns-in-None-clause-taken : goal.returns-in-None-clause-taken
returns-in-None-clause-taken c =
    let s = c.self.inside in
    rw (← c.self.view_is, find_is c.args.m s.places.items s.table.entries c.self.invariant.filed, ← c.in-None.ensures.value) refl

pub returns-in-None-clause-others : goal.returns-in-None-clause-others
returns-in-None-clause-others c =
    let s = c.self.inside in
    rw (← c.self.view_is, c.in-None.ensures.entries) (messages_of-remove_entry c.args.m s.places.items s.table.entries c.self.invariant.filed c.self.invariant.sorted)

pub index_mut-requires : goal.index_mut-requires
index_mut-requires c =
    let s = c.self.inside in
    let fits = place_of c.args.m.0 c.in-Some.place s.places.items s.free.items _ s.table.entries c.self.invariant (sym c.in-Some.ensures.value) in
    omega (arith, fits, s.places.ok.0)

pub invariant_of-self-in-Some : goal.invariant_of-self-in-Some
invariant_of-self-in-Some c =
    let s = c.self.inside in
    rw (c.take.ensures.after, c.push_reserved.ensures.items, c.push_reserved.ensures.capacity, c.in-Some.ensures.entries)
    (taken c.args.m c.in-Some.place s.places.items s.free.items _ s.table.entries c.self.invariant (rw c.in-Some.ensures.entries at c.in-Some.ensures.ordered) (sym c.in-Some.ensures.value) (rw c.in-Some.ensures.entries at c.in-Some.ensures.len)).sound

pub returns-in-Some-clause-taken : goal.returns-in-Some-clause-taken
returns-in-Some-clause-taken c =
    let s = c.self.inside in
    rw (← c.self.view_is, find_is c.args.m s.places.items s.table.entries c.self.invariant.filed, ← c.in-Some.ensures.value, c.take.ensures.value)
    (get_or_read s.places.items c.in-Some.place _ (place_of c.args.m.0 c.in-Some.place s.places.items s.free.items _ s.table.entries c.self.invariant (sym c.in-Some.ensures.value)) c.index_mut.ensures.value None)

pub returns-in-Some-clause-others : goal.returns-in-Some-clause-others
returns-in-Some-clause-others c =
    let s = c.self.inside in
    rw (c.take.ensures.after, c.in-Some.ensures.entries, ← c.self.view_is)
    (taken c.args.m c.in-Some.place s.places.items s.free.items _ s.table.entries c.self.invariant (rw c.in-Some.ensures.entries at c.in-Some.ensures.ordered) (sym c.in-Some.ensures.value) (rw c.in-Some.ensures.entries at c.in-Some.ensures.len)).messages
