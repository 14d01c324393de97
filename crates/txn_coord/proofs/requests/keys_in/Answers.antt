use Rattle.txn_coord.proofs.ResolveLemmas.{keys_in_step}
use Rattle.txn_coord.proofs.requests.keys_in.Goals as goal

pub loop-write-preserved : goal.loop-write-preserved
loop-write-preserved c =
    rw (c.in_ok-push.ensures.ok, c.in_ok-clone_in.ensures.copy) (keys_in_step c.args.range c.args.writes.now c.loop-write.write-index c.write-item.result _ _ c.loop-write.invariant c.loop-write-test.true c.write-item.is c.if-write-range.false)
