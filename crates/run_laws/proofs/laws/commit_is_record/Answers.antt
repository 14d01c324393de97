use Rattle.run_laws.proofs.CommitLemmas.{commit_is_record}
use Rattle.run_laws.proofs.laws.commit_is_record.Goals as goal

pub returns : goal.returns
returns c = commit_is_record
