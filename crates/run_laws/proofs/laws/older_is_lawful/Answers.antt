use Rattle.run_laws.proofs.LawfulLemmas.{older_lawful}
use Rattle.run_laws.proofs.laws.older_is_lawful.Goals as goal

pub returns : goal.returns
returns c = older_lawful
