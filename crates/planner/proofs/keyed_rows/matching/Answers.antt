use Rattle.std.proofs.Common.{rules}
use Rattle.planner.proofs.KeyedRowLemmas.{retained}
use Rattle.planner.proofs.keyed_rows.matching.Goals as goal

pub returns : goal.returns
returns c = retained _ _ _ (λ k v b w g r. search rules) _ _ c.retain.ensures.filtered
