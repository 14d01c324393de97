use Rattle.std.proofs.Common.{sym, ◌∙◌}
use Rattle.ts_cache.proofs.IndexLemmas.{removed_point}
use Rattle.ts_cache.proofs.index.Index.remove.Goals as goal

pub returns-then-is_point : goal.returns-then-is_point
returns-then-is_point c = λ rest i.
    removed_point c.args.oldest.now c.args.self.now.points.entries c.remove.new.self.entries c.args.self.now.wide.items rest (sym c.is_point.ensures ∙ c.if-is_point.true) (λ q. c.remove.ensures.updates.0 q) i
