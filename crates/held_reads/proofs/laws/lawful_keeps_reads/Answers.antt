use Rattle.held_reads.proofs.KeptLemmas.{lawful_kept}
use Rattle.held_reads.proofs.laws.lawful_keeps_reads.Goals as goal

pub returns : goal.returns
returns c = lawful_kept
