use Rattle.std.proofs.Common.{subst, sym}
use Rattle.mvcc_range.proofs.KeyOrder.{follows_stand}
use Rattle.mvcc_range.specs.Follows.{ReplicaValue}
use Rattle.mvcc_range.specs.Walks.{AllStand}
use Rattle.mvcc_range.proofs.replica.Replica.lowest_intent.Goals as goal

pub returns : goal.returns
returns c = λ entries follows.
    c.lowest_of.ensures entries (subst (λ (r : ReplicaValue). AllStand entries r.keys) (sym c.self.view_is) (follows_stand c.args.self.now entries follows))
