use Rattle.std.proofs.Common.{◌∙◌, ap, arith}
use Rattle.run_words.specs.Nodes.{boot}
use Rattle.cluster_state.proofs.NodeAt.{id_at, tied_at}
use Rattle.cluster_state.specs.Tied.{past, the_setup}
use Rattle.cluster_state.proofs.state.State.transfer.Goals as goal

pub move_held-requires-clause-to : goal.move_held-requires-clause-to
move_held-requires-clause-to c = (
  (c.requires.there.0, omega (arith, c.requires.there.1, c.requires.tied.staged.nodes.few)),
  (tied_at c.args.self.now (past c.args.self.now) c.args.to c.index.result.now c.requires.tied c.requires.there c.index.ensures).boot_is
      ∙ ap (boot (the_setup c.args.self.now) (past c.args.self.now))
      (id_at c.args.self.now (past c.args.self.now) c.args.to c.index.result.now c.requires.tied c.requires.there c.index.ensures),
)
