use Rattle.visible_runs.proofs.AckFacts.{ack_below, acked}
use Rattle.visible_runs.proofs.NamedNodes.{name_nodes}
use Rattle.visible_runs.proofs.laws.acknowledged_stays_below_peak.Goals as goal

pub returns : goal.returns
returns c = λ setup h ack sound lawful w. ack_below setup sound h lawful (name_nodes setup h lawful) ack (acked setup h lawful ack w)
