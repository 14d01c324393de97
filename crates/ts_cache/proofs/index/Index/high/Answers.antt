use Rattle.std.proofs.Common.{refl, sym, ◌∙◌}
use Rattle.ts_cache.proofs.HighLemmas.{high_is, none_meets}
use Rattle.ts_cache.proofs.index.Index.high.Goals as goal

pub returns-then-lt : goal.returns-then-lt
returns-then-lt c = λ held i.
    rw (c.latest_meeting.ensures, c.latest_between-high.ensures.latest, c.as_slice.ensures.value)
    (high_is c.args.self.now.points.entries c.args.self.now.wide.items held c.args.low c.args.s.now (record { indexed = i; sorted = c.latest_between-high.ensures.ordered }))

pub returns-else-lt : goal.returns-else-lt
returns-else-lt c = λ held i. rw (none_meets c.args.s.now held (sym c.lt.ensures ∙ c.if-lt.false)) refl
