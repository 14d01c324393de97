use Rattle.std.proofs.Common.{◌≡◌, ◌≢◌, ◌≤◌, ◌<◌, ◌-◌, [], length, get_or, refl, sym, ap, ◌∙◌, subst, rules}
use Rattle.std.specs.Vec.{with_item}
use Rattle.mr_base.specs.declared.ids.RangeId.{RangeId}
use Rattle.range_replicas.specs.RangeValue.{RangeValue}
use Rattle.run_words.specs.Askers.{range_asked}
use Rattle.run_words.specs.Logs.{log_of}
use Rattle.run_ledger.specs.LedgerValue.{made_all}
use Rattle.cluster_state.proofs.HereKeep.{all_tied, has_handled}
use Rattle.cluster_state.proofs.NodeAt.{is_inside, reading_at}
use Rattle.cluster_state.proofs.RangeLemmas.{replica_there as replica_in}
use Rattle.cluster_state.proofs.ReplicaThere.{replica_there}
use Rattle.cluster_state.proofs.Written.{made_items}
use Rattle.cluster_state.specs.Tied.{IsThere, past, the_setup}
use Rattle.cluster_state.proofs.state.State.handle_here.Goals as goal

pub overflow_sub-node : goal.overflow_sub-node
overflow_sub-node c = (replica_there c.args.self.now.stage (past c.args.self.now) c.args.node (range_asked c.args.q.now) c.requires.tied.staged c.requires.replica).0

pub index-requires : goal.index-requires
index-requires c =
    let s = c.args.self.now in
    let inside : c.args.node.0 - 1 < length s.nodes.items =
    is_inside s (past s) c.args.node c.requires.tied
    (replica_there s.stage (past s) c.args.node (range_asked c.args.q.now) c.requires.tied.staged c.requires.replica) in
    search (rules, inside)

pub answer_at-requires-clause-replica : goal.answer_at-requires-clause-replica
answer_at-requires-clause-replica c =
    let s = c.args.self.now in
    let is : c.index_mut.result.now ≡ get_or s.ranges.items ((range_asked c.args.q.now).0 - 1) c.index_mut.result.now =
    subst (λ (i : RangeId). c.index_mut.result.now ≡ get_or s.ranges.items (i.0 - 1) c.index_mut.result.now) c.range_asked-number.ensures c.index_mut.ensures.value in
    replica_in s (past s) c.requires.tied (range_asked c.args.q.now) c.requires.begun c.index_mut.result.now is c.args.node c.requires.replica

pub returns-clause-handled : goal.returns-clause-handled
returns-clause-handled c =
    let s = c.args.self.now in
    let q = c.args.q.now in
    let r = c.index_mut.result.now in
    let there : IsThere s.stage c.args.node = replica_there s.stage (past s) c.args.node (range_asked q) c.requires.tied.staged c.requires.replica in
    let is : r ≡ get_or s.ranges.items ((range_asked q).0 - 1) r =
    subst (λ (i : RangeId). r ≡ get_or s.ranges.items (i.0 - 1) r) c.range_asked-number.ensures c.index_mut.ensures.value in
    let shows = c.reading-clock.ensures.shown ∙ reading_at s (past s) c.args.node c.index.result.now c.requires.tied there c.index.ensures in
    rw c.range_asked-number.ensures (
      made_all c.in_ok-answered.answered.entries.items,
      has_handled c.majority_is_more_than_half.ensures s (past s) c.requires.tied q c.requires.begun r is c.args.node c.reading-clock.result c.index.result.now c.requires.placed
          c.requires.node c.requires.running shows c.answer_at.new.range c.in_ok-answered.answered c.in_ok-answered.ensures,
      made_items s (record s { ranges = with_item s.ranges ((range_asked q).0 - 1) c.answer_at.new.range }) refl c.write_all.new.self
          (made_all c.in_ok-answered.answered.entries.items) c.in_ok-write_all.ensures.made
          (all_tied c.majority_is_more_than_half.ensures s (past s) c.requires.tied q c.requires.begun r is c.args.node c.reading-clock.result c.index.result.now c.requires.placed
          c.requires.node c.requires.running shows c.answer_at.new.range c.in_ok-answered.answered c.in_ok-answered.ensures),
    )
