use Rattle.std.proofs.Common.{arith}
use Rattle.range_server.proofs.LeaseLemmas.{applying_begins, applying_goes_on}
use Rattle.range_server.proofs.standing.Standing.apply_to.Goals as goal

pub loop-i-init : goal.loop-i-init
loop-i-init c =
    applying_begins c.args.self.now c.args.log.now.entries c.requires.follows c.applied-applied.result (c.applied-applied.ensures _ c.requires.follows)

pub loop-i-preserved : goal.loop-i-preserved
loop-i-preserved c =
    let count = c.applied-applied.ensures _ c.requires.follows in
    applying_goes_on c.args.self.now c.args.log.now.entries c.requires.follows c.loop-i.self c.apply.new.self c.loop-i.i c.entry.result.now
    (omega (arith, count, c.requires.follows.count)) (omega arith) c.entry.ensures c.loop-i.invariant c.in_ok-apply.ensures.follows
    c.in_ok-apply.ensures.server
