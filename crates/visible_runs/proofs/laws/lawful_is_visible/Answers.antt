use Rattle.visible_runs.proofs.NamedNodes.{name_nodes}
use Rattle.visible_runs.proofs.VisibleLemmas.{visible}
use Rattle.visible_runs.proofs.laws.lawful_is_visible.Goals as goal

pub returns : goal.returns
returns c = λ setup h sound lawful. visible setup sound h lawful (name_nodes setup h lawful)
