use Rattle.held_reads.proofs.HeldLemmas.{served_held}
use Rattle.held_reads.proofs.laws.kept_reads_are_held.Goals as goal

pub returns : goal.returns
returns c = λ setup h s key value sound keeps was inside. served_held setup sound h keeps s was key value inside
