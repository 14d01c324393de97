use Rattle.run_laws.proofs.AppliedLemmas.{applied_is_within}
use Rattle.run_laws.proofs.laws.applied_is_within.Goals as goal

pub returns : goal.returns
returns c = applied_is_within
