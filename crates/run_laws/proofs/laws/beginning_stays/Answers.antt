use Rattle.run_laws.proofs.AttemptLemmas.{beginning_stays}
use Rattle.run_laws.proofs.laws.beginning_stays.Goals as goal

pub returns : goal.returns
returns c = beginning_stays
