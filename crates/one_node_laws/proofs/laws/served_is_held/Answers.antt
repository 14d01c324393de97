use Rattle.one_node_laws.proofs.SumOf.{held}
use Rattle.one_node_laws.proofs.laws.served_is_held.Goals as goal

pub returns : goal.returns
returns c = held
