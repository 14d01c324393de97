use Rattle.std.proofs.Common.{refl}
use Rattle.scenario.proofs.NoLine.{no_node}
use Rattle.scenario.proofs.first_path.FirstPath.node.Goals as goal

pub returns-in_default : goal.returns-in_default
returns-in_default c = (refl, refl, no_node _ _ c.requires.expected c.requires.counts c.in_default.ensures.only)
