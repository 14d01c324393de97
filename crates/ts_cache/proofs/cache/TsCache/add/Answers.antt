use Rattle.std.proofs.Common.{◌≡◌, ◌≤◌, ap, arith, length, ◌∙◌}
use Rattle.ts_cache.proofs.CacheLemmas.{added_when_full, oldest_and_rest, sound_again, sound_when_full}
use Rattle.ts_cache.proofs.HeldLemmas.{AreApart-filter}
use Rattle.ts_cache.proofs.IndexLemmas.{is_wide}
use Rattle.ts_cache.proofs.RenewLemmas.{was_held, was_not_held}
use Rattle.ts_cache.proofs.cache.TsCache.add.Goals as goal

pub renew-requires-then-renew : goal.renew-requires-then-renew
renew-requires-then-renew c =
    let i = c.self.invariant.indexed in
    rw i.wides (AreApart-filter is_wide c.self.inside.held.items i.apart)

pub invariant_of-self : goal.invariant_of-self
invariant_of-self c =
    let held = c.self.inside.held.items in
    let was = was_held c.args.s.now c.args.ts held c.renew.new.list.items c.renew.result c.renew.ensures c.if-renew.true in
    sound_again c.renew-then-renew.new.self.points.entries c.renew-then-renew.new.self.wide.items held c.renew.new.list.items c.self.inside.capacity c.args.s.now c.args.ts was.0 was.1 was.2
    c.self.invariant.bounded c.self.invariant.some (c.renew-then-renew.ensures held was.0 was.1 c.self.invariant.indexed)

pub invariant_of-self-2 : goal.invariant_of-self-2
invariant_of-self-2 c =
    let held = c.self.inside.held.items in
    let was = was_not_held c.args.s.now c.args.ts held c.renew.new.list.items c.renew.result c.renew.ensures c.if-renew.false in
    let same : c.reserve.new.self.items ≡ held = c.in_ok-reserve.ensures.items ∙ was.1 in
    let full : c.self.inside.capacity ≤ length held = omega (arith, c.if-len-self.false, c.len.ensures, c.reserve.new.self.ok.0, ap length same) in
    let split = oldest_and_rest held (omega (arith, full, c.self.invariant.some)) in
    let indexed = c.in_ok-insert.ensures.ok held was.0 c.self.invariant.indexed in
    let dropped = c.drop_oldest-self-inside.ensures.dropped split.0 split.1 (same ∙ split.2) in
    sound_when_full c.drop_oldest-self-inside.new.index.points.entries c.drop_oldest-self-inside.new.index.wide.items held c.push_reserved-2.new.self.items c.self.inside.capacity c.args.s.now c.args.ts split.0 split.1 split.2
    (rw (dropped.0, c.in_ok-span.ensures.copy) at c.push_reserved-2.ensures.items) c.self.invariant.bounded c.self.invariant.some
    (c.drop_oldest-self-inside.ensures.indexed split.0 split.1 _ (same ∙ split.2) (rw split.2 at indexed))

pub returns-clause-added : goal.returns-clause-added
returns-clause-added c =
    let held = c.self.inside.held.items in
    let was = was_not_held c.args.s.now c.args.ts held c.renew.new.list.items c.renew.result c.renew.ensures c.if-renew.false in
    let same : c.reserve.new.self.items ≡ held = c.in_ok-reserve.ensures.items ∙ was.1 in
    let full : c.self.inside.capacity ≤ length held = omega (arith, c.if-len-self.false, c.len.ensures, c.reserve.new.self.ok.0, ap length same) in
    let split = oldest_and_rest held (omega (arith, full, c.self.invariant.some)) in
    let dropped = c.drop_oldest-self-inside.ensures.dropped split.0 split.1 (same ∙ split.2) in
    rw (← c.self.view_is)
    (added_when_full (record { low = c.self.inside.low; held = held; capacity = c.self.inside.capacity }) c.args.s.now c.args.ts c.drop_oldest-self-inside.result split.0 split.1 c.push_reserved-2.new.self.items was.0 full split.2 dropped.1
    (rw (dropped.0, c.in_ok-span.ensures.copy) at c.push_reserved-2.ensures.items))
