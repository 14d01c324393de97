use Rattle.std.proofs.Common.{Some, ap, cond, refl, ◌∙◌}
use Rattle.std.specs.Cmp.Lexicographic.{slice_cmp}
use Rattle.std.specs.Ordering.{is_eq, nat_cmp}
use Rattle.ts_cache.proofs.IndexLemmas.{raised, unraised}
use Rattle.ts_cache.specs.Indexed.{key_ts}
use Rattle.ts_cache.proofs.index.raise.Goals as goal

pub returns-in-Some : goal.returns-in-Some
returns-in-Some c = λ q.
    let there = c.get_mut.follows.holds c.later.result in
    let updates = there.3 (rw (← c.in-Some.ensures.value) refl) in
    raised c.args.key.now q c.in-Some.had.now c.args.ts _ _ c.in-Some.ensures.value
    (updates.0 q ∙ ap (λ t. cond (is_eq (slice_cmp nat_cmp c.args.key.now q)) (Some t) (key_ts q c.args.points.now.entries)) c.later.ensures)

pub returns-in_default : goal.returns-in_default
returns-in_default c = λ q. rw c.get_mut.follows.holds-at-none (unraised c.args.key.now q c.args.ts _ c.in_default.ensures.value)
