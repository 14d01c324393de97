use Rattle.run_laws.proofs.FateLemmas.{what_stood_holds}
use Rattle.run_laws.proofs.laws.what_stood_holds.Goals as goal

pub returns : goal.returns
returns c = what_stood_holds
