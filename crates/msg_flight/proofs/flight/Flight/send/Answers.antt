use Rattle.std.proofs.Common.{arith, sym, ◌∙◌}
use Rattle.std.proofs.lemmas.List.{nil_from_length}
use Rattle.msg_flight.proofs.FreeLemmas.{free_last}
use Rattle.msg_flight.proofs.SentLemmas.{IsSentTo, to_a_free_place, to_a_new_place}
use Rattle.msg_flight.proofs.flight.Flight.send.Goals as goal
use Rattle.msg_flight.proofs.flight.Flight.send.Goals.{After-push_reserved, After-put_at}

-- the message goes to a new place
on : (c : After-push_reserved) → IsSentTo c.args.m c.self.inside.places.items c.push_reserved.new.self.items c.reserve-in-None.new.self.items c.reserve-in-None.new.self.cap c.self.inside.table.entries c.insert.new.self.entries
on c =
    let s = c.self.inside in
    let popped = nil_from_length c.pop.new.self.items (omega (arith, c.in-None.ensures.cases.1, c.pop.new.self.ok.0)) in
    let none = c.in_ok-reserve-in-None-2.ensures.items ∙ popped in
    to_a_new_place c.args.m s.places.items c.push_reserved.new.self.items s.free.items c.reserve-in-None.new.self.items s.free.cap c.reserve-in-None.new.self.cap c.len-in-None.result s.table.entries c.insert.new.self.entries
    c.self.invariant (rw (← c.self.view_is) at c.requires.above) (nil_from_length s.free.items (omega (arith, c.in-None.ensures.cases.0, s.free.ok.0))) none
    (omega (arith, c.len-in-None.ensures, c.in_ok-reserve-in-None.ensures.len, s.places.ok.0)) (rw c.in_ok-reserve-in-None.ensures.items at c.push_reserved.ensures.items)
    c.in_ok-insert-in-None.ensures.entries
    (omega (arith, c.len.ensures, c.in_ok-reserve-in-None.ensures.len, c.in_ok-reserve-in-None-2.ensures.ok, c.in_ok-reserve-in-None-2.ensures.len, c.in-None.ensures.cases.1, s.places.ok.0))
    c.in_ok-insert-in-None.ensures.ordered

-- the message goes to a free place
again : (c : After-put_at) → IsSentTo c.args.m c.self.inside.places.items c.put_at.new.places.items c.pop.new.self.items c.pop.new.self.cap c.self.inside.table.entries c.insert-in-Some.new.self.entries
again c =
    let s = c.self.inside in
    to_a_free_place c.args.m s.places.items c.put_at.new.places.items s.free.items c.pop.new.self.items s.free.cap c.pop.new.self.cap c.in-Some.place s.table.entries c.insert-in-Some.new.self.entries
    c.self.invariant (rw (← c.self.view_is) at c.requires.above) c.in-Some.ensures.items c.put_at.ensures c.in-Ok.ensures.entries c.in-Some.ensures.capacity c.in-Ok.ensures.ordered

pub invariant_of-self-in-None : goal.invariant_of-self-in-None
invariant_of-self-in-None c = (on c).sound

pub put_at-requires : goal.put_at-requires
put_at-requires c =
    let s = c.self.inside in
    let last = free_last c.in-Some.place s.places.items c.pop.new.self.items (rw c.in-Some.ensures.items at c.self.invariant.free_places) in
    omega (arith, last.0, s.places.ok.0)

pub invariant_of-self-in-Ok : goal.invariant_of-self-in-Ok
invariant_of-self-in-Ok c = (again c).sound

pub returns-in_ok-insert-in-None-clause-sent : goal.returns-in_ok-insert-in-None-clause-sent
returns-in_ok-insert-in-None-clause-sent c = rw (← c.self.view_is) (on c).messages

pub returns-in_ok-insert-in-None-clause-places : goal.returns-in_ok-insert-in-None-clause-places
returns-in_ok-insert-in-None-clause-places c = rw (← c.self.view_is) (on c).size

pub returns-in-Ok-clause-sent : goal.returns-in-Ok-clause-sent
returns-in-Ok-clause-sent c = rw (← c.self.view_is) (again c).messages

pub returns-in-Ok-clause-places : goal.returns-in-Ok-clause-places
returns-in-Ok-clause-places c = rw (← c.self.view_is) (again c).size
