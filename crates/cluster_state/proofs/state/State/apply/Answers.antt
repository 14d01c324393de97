use Rattle.std.proofs.Common.{rules, ◌≡◌, ◌≢◌, ◌<◌, length, [], refl, sym, ap, subst, inl, arith}
use Rattle.range_replicas.specs.RangeValue.{server_at}
use Rattle.cluster_state.proofs.ApplyLemmas.{line_done, line_due}
use Rattle.cluster_state.proofs.RangeLemmas.{read_at, replica_there}
use Rattle.cluster_state.specs.Tied.{past}
use Rattle.cluster_state.proofs.state.State.apply.Goals as goal

pub unreachable-requires : goal.unreachable-requires
unreachable-requires c =
    let s = c.args.self.now in
    c.in_default.ensures (replica_there s (past s) c.requires.tied c.args.number c.requires.made c.index-range.result.now c.index-range.ensures c.args.node c.requires.replica)

pub returns-then-upto-applied-clause-made : goal.returns-then-upto-applied-clause-made
returns-then-upto-applied-clause-made c = (
  [],
  inl (
    line_done c.args.self.now c.requires.tied c.args.number c.requires.made c.index-range.result.now c.index-range.ensures c.in-Some.place c.args.node
        c.in-Some.ensures.0 c.in-Some.ensures.1 c.args.more c.requires.line c.saturating_add.result c.min-upto.result (search rules) (search rules) (search rules) (search rules),
    refl,
  ),
  record { stage = refl; history = refl; tied = c.requires.tied },
)

pub apply_upto-requires-clause-due : goal.apply_upto-requires-clause-due
apply_upto-requires-clause-due c =
    line_due c.args.self.now c.requires.tied c.args.number c.requires.made c.index-range.result.now c.index-range.ensures c.in-Some.place c.args.node
    c.in-Some.ensures.0 c.in-Some.ensures.1 c.args.more c.requires.line c.saturating_add.result c.min-upto.result (search rules) (search rules) (search rules) c.requires.running c.requires.replica (search rules)
