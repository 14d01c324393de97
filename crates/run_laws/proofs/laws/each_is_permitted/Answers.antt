use Rattle.run_laws.proofs.LawfulLemmas.{permitted_at}
use Rattle.run_laws.proofs.laws.each_is_permitted.Goals as goal

pub returns : goal.returns
returns c = permitted_at
