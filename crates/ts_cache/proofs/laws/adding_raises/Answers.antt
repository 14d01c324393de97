use Rattle.ts_cache.proofs.LawLemmas.{covers, lowers_nothing}
use Rattle.ts_cache.proofs.laws.adding_raises.Goals as goal

pub returns : goal.returns
returns c = record { lowers_nothing = lowers_nothing; covers = covers }
