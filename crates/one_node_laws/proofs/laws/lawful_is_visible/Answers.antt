use Rattle.one_node_laws.proofs.VisibleLemmas.{visible}
use Rattle.one_node_laws.proofs.laws.lawful_is_visible.Goals as goal

pub returns : goal.returns
returns c = visible
