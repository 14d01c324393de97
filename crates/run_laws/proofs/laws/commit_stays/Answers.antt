use Rattle.run_laws.proofs.CommitLemmas.{commit_stays}
use Rattle.run_laws.proofs.laws.commit_stays.Goals as goal

pub returns : goal.returns
returns c = commit_stays
