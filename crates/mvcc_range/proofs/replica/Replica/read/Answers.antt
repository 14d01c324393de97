use Rattle.std.proofs.Common.{subst, sym}
use Rattle.std.proofs.lemmas.Result.{IfOk-weaker}
use Rattle.mvcc_range.proofs.KeyOrder.{follows_stand}
use Rattle.mvcc_range.specs.Follows.{ReplicaValue}
use Rattle.mvcc_range.specs.Walks.{AllStand}
use Rattle.mvcc_range.proofs.replica.Replica.read.Goals as goal

pub returns : goal.returns
returns c =
    IfOk-weaker c.read_keys.result _ _
    (λ answer h entries follows. h entries (subst (λ (r : ReplicaValue). AllStand entries r.keys) (sym c.self.view_is) (follows_stand c.args.self.now entries follows)))
    c.read_keys.ensures
