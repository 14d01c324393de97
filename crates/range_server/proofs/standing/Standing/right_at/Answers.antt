use Rattle.range_server.proofs.ReadLemmas.{right_by_closure, right_by_lease, right_by_none}
use Rattle.range_server.proofs.standing.Standing.right_at.Goals as goal

pub returns-then-by_lease : goal.returns-then-by_lease
returns-then-by_lease c = λ entries f. right_by_lease c.args.self.now entries c.args.lease.now c.args.at c.args.limit (c.requires entries f) c.by_lease.result c.by_lease.ensures c.if-by_lease.true

pub returns-then-by_closure : goal.returns-then-by_closure
returns-then-by_closure c = λ entries f.
    right_by_closure c.args.self.now entries c.args.lease.now c.args.at c.args.limit (c.requires entries f) c.by_lease.result c.by_lease.ensures c.closed.result (c.closed.ensures entries f) c.by_closure.result c.by_closure.ensures c.if-by_lease.false c.if-by_closure.true

pub returns : goal.returns
returns c = λ entries f.
    right_by_none c.args.self.now entries c.args.lease.now c.args.at c.args.limit (c.requires entries f) c.by_lease.result c.by_lease.ensures c.closed.result (c.closed.ensures entries f) c.by_closure.result c.by_closure.ensures c.if-by_lease.false c.if-by_closure.false
