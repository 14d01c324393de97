use Rattle.std.proofs.Common.{◌∙◌}
use Rattle.sim_nodes.proofs.ReaderLemmas.{reading_is}
use Rattle.sim_nodes.proofs.nodes.Nodes.reading.Goals as goal

pub returns : goal.returns
returns c = c.reading.ensures.shown ∙ reading_is c.self.inside.state c.self.inside.ended c.args.self.now c.self.view_is c.self.invariant c.requires.«open» c.args.node c.index.result.now c.requires.there c.index.ensures
