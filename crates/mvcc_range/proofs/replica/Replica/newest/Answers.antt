use Rattle.std.proofs.Common.{subst, sym}
use Rattle.mvcc_range.proofs.KeyOrder.{follows_stand, stands_at}
use Rattle.mvcc_range.proofs.LookupLemmas.{newest_none, newest_of}
use Rattle.mvcc_range.specs.Follows.{ReplicaValue}
use Rattle.mvcc_range.specs.Walks.{AllStand}
use Rattle.mvcc_range.proofs.replica.Replica.newest.Goals as goal

pub returns-in_default : goal.returns-in_default
returns-in_default c = λ entries follows.
    let stand = subst (λ (r : ReplicaValue). AllStand entries r.keys) (sym c.self.view_is) (follows_stand c.args.self.now entries follows) in
    newest_none entries c.self.inside.facts.keys.entries c.args.key.now stand (sym c.in_default.ensures.value)

pub returns : goal.returns
returns c = λ entries follows.
    let stand = subst (λ (r : ReplicaValue). AllStand entries r.keys) (sym c.self.view_is) (follows_stand c.args.self.now entries follows) in
    newest_of entries c.args.key.now c.in-Some.state.now c.newest.result (stands_at entries c.self.inside.facts.keys.entries c.args.key.now c.in-Some.state.now stand (sym c.in-Some.ensures.value)) c.newest.ensures
