use Rattle.ts_cache.proofs.LawLemmas.{keeps_apart, keeps_within}
use Rattle.ts_cache.proofs.laws.adding_keeps_bounds.Goals as goal

pub returns : goal.returns
returns c = record { apart = keeps_apart; within = keeps_within }
