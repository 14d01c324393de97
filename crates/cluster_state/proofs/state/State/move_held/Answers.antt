use Rattle.std.proofs.Common.{◌∙◌, ◌≡◌, true, sym, arith}
use Rattle.cluster_state.proofs.LeaseLaws.{replica_node}
use Rattle.cluster_state.proofs.LeaseLemmas.{at_line}
use Rattle.cluster_state.proofs.NodeAt.{is_inside, reading_at, runs_at}
use Rattle.cluster_state.specs.Tied.{past}
use Rattle.cluster_state.proofs.state.State.move_held.Goals as goal

pub refuse_lease-requires-clause-line : goal.refuse_lease-requires-clause-line
refuse_lease-requires-clause-line c =
    at_line (past c.args.self.now) c.args.ask c.args.number c.lease.result.holder (c.requires.line c.lease.result.holder)

pub refuse_lease-requires-clause-first : goal.refuse_lease-requires-clause-first
refuse_lease-requires-clause-first c = (c.requires.line c.lease.result.holder).1

pub overflow_sub-holder : goal.overflow_sub-holder
overflow_sub-holder c =
    (replica_node c.args.self.now c.requires.tied c.args.number c.requires.made c.index-range.result.now c.index-range.ensures c.in-Some.place c.lease.result.holder
    c.in-Some.ensures.0 c.in-Some.ensures.1).0

pub index-node-requires : goal.index-node-requires
index-node-requires c =
    let there = replica_node c.args.self.now c.requires.tied c.args.number c.requires.made c.index-range.result.now c.index-range.ensures c.in-Some.place c.lease.result.holder
    c.in-Some.ensures.0 c.in-Some.ensures.1 in
    let inside = is_inside c.args.self.now (past c.args.self.now) c.lease.result.holder c.requires.tied there in
    omega (arith, inside, c.args.self.now.nodes.ok)

pub refuse_lease-requires-then-not-node-clause-line : goal.refuse_lease-requires-then-not-node-clause-line
refuse_lease-requires-then-not-node-clause-line c =
    at_line (past c.args.self.now) c.args.ask c.args.number c.lease.result.holder (c.requires.line c.lease.result.holder)

pub refuse_lease-requires-then-not-node-clause-first : goal.refuse_lease-requires-then-not-node-clause-first
refuse_lease-requires-then-not-node-clause-first c = (c.requires.line c.lease.result.holder).1

pub move_lease-requires-clause-running : goal.move_lease-requires-clause-running
move_lease-requires-clause-running c =
    let there = replica_node c.args.self.now c.requires.tied c.args.number c.requires.made c.index-range.result.now c.index-range.ensures c.in-Some.place c.lease.result.holder
    c.in-Some.ensures.0 c.in-Some.ensures.1 in
    sym (runs_at c.args.self.now (past c.args.self.now) c.lease.result.holder c.index-node.result.now c.requires.tied there c.index-node.ensures) ∙ c.if-not-node.false

pub move_lease-requires-clause-line : goal.move_lease-requires-clause-line
move_lease-requires-clause-line c = c.requires.line c.lease.result.holder

pub move_lease-requires-clause-clock : goal.move_lease-requires-clause-clock
move_lease-requires-clause-clock c =
    let there = replica_node c.args.self.now c.requires.tied c.args.number c.requires.made c.index-range.result.now c.index-range.ensures c.in-Some.place c.lease.result.holder
    c.in-Some.ensures.0 c.in-Some.ensures.1 in
    c.reading-clock.ensures.shown
    ∙ reading_at c.args.self.now (past c.args.self.now) c.lease.result.holder c.index-node.result.now c.requires.tied there c.index-node.ensures
