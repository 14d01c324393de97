use Rattle.held_reads.proofs.FedLemmas.{fed_agrees}
use Rattle.held_reads.proofs.laws.fed_reads_agree.Goals as goal

pub returns : goal.returns
returns c = λ setup h d served fed sound keeps each are. fed_agrees setup sound h keeps d served fed each are
