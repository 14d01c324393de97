use Rattle.ts_cache.proofs.LawLemmas.{raises_the_top, top_above_all}
use Rattle.ts_cache.proofs.laws.top_is_greatest.Goals as goal

pub returns : goal.returns
returns c = record { raised = raises_the_top; above_all = top_above_all }
