use Rattle.run_laws.proofs.LawfulLemmas.{happened_so}
use Rattle.run_laws.proofs.laws.put_was_permitted.Goals as goal
use Rattle.run_words.specs.Relations.{IsPut}

pub returns : goal.returns
returns c = λ setup h a put l w. happened_so setup h (IsPut a put) l w
