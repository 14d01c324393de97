use Rattle.std.proofs.Common.{sym, ◌∙◌}
use Rattle.ts_cache.proofs.IndexLemmas.{inserted_point, inserted_wide}
use Rattle.ts_cache.proofs.index.Index.insert.Goals as goal

pub returns-in_ok-insert-clause-ok : goal.returns-in_ok-insert-clause-ok
returns-in_ok-insert-clause-ok c = λ held none i.
    inserted_point c.args.s.now c.args.ts c.args.self.now.points.entries c.insert.new.self.entries c.args.self.now.wide.items held (sym c.is_point.ensures ∙ c.if-is_point.true) none
    (λ q. rw (← c.in_ok-clone_in.ensures.copy) (c.in_ok-insert.ensures.updates.0 q)) i

pub returns-in_ok-push-clause-ok : goal.returns-in_ok-push-clause-ok
returns-in_ok-push-clause-ok c = λ held none i.
    inserted_wide c.args.s.now c.args.ts c.args.self.now.points.entries c.args.self.now.wide.items c.push.new.self.items held (sym c.is_point.ensures ∙ c.if-is_point.false) none
    (rw (← c.in_ok-span.ensures.copy) c.in_ok-push.ensures.items) i
