use Rattle.run_laws.proofs.LawfulLemmas.{happened_so}
use Rattle.run_laws.proofs.laws.served_was_permitted.Goals as goal
use Rattle.run_words.specs.Relations.{IsServe}

pub returns : goal.returns
returns c = λ setup h s l w. happened_so setup h (IsServe setup s) l w
