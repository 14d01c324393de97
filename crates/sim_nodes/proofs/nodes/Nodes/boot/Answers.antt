use Rattle.sim_nodes.proofs.ReaderLemmas.{boot_is}
use Rattle.sim_nodes.proofs.nodes.Nodes.boot.Goals as goal

pub returns : goal.returns
returns c = boot_is c.self.inside.state c.self.inside.ended c.args.self.now c.self.view_is c.self.invariant c.requires.«open» c.args.node c.index.result.now c.requires.there c.index.ensures
