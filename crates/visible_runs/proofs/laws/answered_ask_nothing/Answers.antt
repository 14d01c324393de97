use Rattle.visible_runs.proofs.Answered.{answered_ask_nothing}
use Rattle.visible_runs.proofs.laws.answered_ask_nothing.Goals as goal

pub returns : goal.returns
returns c = λ setup h sound lawful. answered_ask_nothing setup sound h lawful
