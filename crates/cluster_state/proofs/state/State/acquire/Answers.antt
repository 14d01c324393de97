use Rattle.std.proofs.Common.{◌∙◌}
use Rattle.cluster_state.proofs.NodeAt.{reading_at}
use Rattle.cluster_state.specs.Tied.{past}
use Rattle.cluster_state.proofs.state.State.acquire.Goals as goal

pub move_lease-requires-clause-clock : goal.move_lease-requires-clause-clock
move_lease-requires-clause-clock c =
    c.reading-clock.ensures.shown
    ∙ reading_at c.args.self.now (past c.args.self.now) c.args.node c.index-2.result.now c.requires.tied c.requires.there c.index-2.ensures
