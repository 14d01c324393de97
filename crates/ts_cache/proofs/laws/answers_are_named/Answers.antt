use Rattle.ts_cache.proofs.LawLemmas.{named}
use Rattle.ts_cache.proofs.laws.answers_are_named.Goals as goal

pub returns : goal.returns
returns c = named
