use Rattle.run_laws.proofs.AttemptLemmas.{attempt_stays}
use Rattle.run_laws.proofs.laws.attempt_stays.Goals as goal

pub returns : goal.returns
returns c = attempt_stays
