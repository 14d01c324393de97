use Rattle.held_reads.proofs.HeldLemmas.{served_held}
use Rattle.held_reads.proofs.KeptLemmas.{lawful_kept}
use Rattle.held_reads.proofs.laws.served_is_held.Goals as goal

pub returns : goal.returns
returns c = λ setup h s key value sound lawful was inside. served_held setup sound h (lawful_kept setup h lawful) s was key value inside
