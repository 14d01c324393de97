use Rattle.run_laws.proofs.PutLemmas.{commit_is_above_puts}
use Rattle.run_laws.proofs.laws.commit_is_above_puts.Goals as goal

pub returns : goal.returns
returns c = commit_is_above_puts
