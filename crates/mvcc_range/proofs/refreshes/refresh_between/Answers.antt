use Rattle.std.proofs.Common.{List, ℕ, Option, None, inl, inr, subst, sym, ◌∙◌}
use Rattle.std.proofs.lemmas.Map.Views.{All-turn}
use Rattle.std.proofs.lemmas.Result.{IfOk-weaker}
use Rattle.std.specs.BTreeMap.Range.{IsEntryInRange}
use Rattle.std.specs.Cmp.Lexicographic.{slice_cmp}
use Rattle.std.specs.Map.{keys_of}
use Rattle.std.specs.Map.Iter.{deref_pair}
use Rattle.std.specs.Ordering.{nat_cmp}
use Rattle.std.specs.declared.ops.Bound.TheVariants.{Excluded, Included}
use Rattle.mr_base.specs.declared.timestamps.Ts.{Ts}
use Rattle.mvcc_range.proofs.KeyOrder.{keys_between, stands_at}
use Rattle.mvcc_range.proofs.RefreshWalk.{RefreshFrom, refresh_walked}
use Rattle.mvcc_range.specs.KeyValue.{KeyValue}
use Rattle.mvcc_range.specs.KeyView.{as_read}
use Rattle.mvcc_range.proofs.refreshes.refresh_between.Goals as goal

pub loop-key-init : goal.loop-key-init
loop-key-init c = λ entries answer stand from.
    let whole = c.into_iter-key-iterator.ensures.into_iter_gives ∙ c.range-key-items.ensures.between tt in
    subst (λ (it : List (List ℕ × KeyValue)). RefreshFrom entries (as_read c.args.later.now) c.args.from None (keys_of it) answer) whole from

pub loop-key-preserved : goal.loop-key-preserved
loop-key-preserved c = λ entries answer stand from.
    let read = as_read c.args.later.now in
    let entry = All-turn deref_pair (IsEntryInRange (slice_cmp nat_cmp) (Included c.args.later.now.span.now.lo) (Excluded c.args.later.now.span.now.hi) c.args.keys.now) _ _ _ _ _ _ _ (c.range-key-items.ensures.in_range tt).0
    c.into_iter-key-iterator.ensures.into_iter_gives c.loop-key.yielded_by c.in-Some.is c.next.ensures.steps in
    let st = stands_at entries c.args.keys.now.entries c.in-Some.key.now c.in-Some.state.now stand entry.1 in
    c.loop-key.invariant entries answer stand
    (subst (λ (it : List (List ℕ × KeyValue)). RefreshFrom entries read c.args.from c.loop-key.least (keys_of it) answer) (sym c.in-Some.ensures.steps)
    (inr (
      c.in_default.ensures entries c.in-Some.key.now (c.kept.ensures ∙ st.intent),
      c.newer_at.result,
      c.newer_at.ensures entries c.in-Some.key.now st,
      subst (λ (o : Option Ts). RefreshFrom entries read c.args.from o (keys_of c.next.new.self) answer) c.lesser-least.ensures from,
    )))

pub returns-in-Some-unknown : goal.returns-in-Some-unknown
returns-in-Some-unknown c =
    IfOk-weaker c.unknown_at.result _ _
    (λ answer e entries stand.
    let read = as_read c.args.later.now in
    let entry = All-turn deref_pair (IsEntryInRange (slice_cmp nat_cmp) (Included c.args.later.now.span.now.lo) (Excluded c.args.later.now.span.now.hi) c.args.keys.now) _ _ _ _ _ _ _ (c.range-key-items.ensures.in_range tt).0
    c.into_iter-key-iterator.ensures.into_iter_gives c.loop-key.yielded_by c.in-Some.is c.next.ensures.steps in
    let st = stands_at entries c.args.keys.now.entries c.in-Some.key.now c.in-Some.state.now stand entry.1 in
    refresh_walked entries read c.args.from c.requires.limit c.args.keys.now.entries _ answer stand (keys_between c.args.keys.now.entries c.args.later.now.span.now c.range-key-items.ensures.ordered)
    (c.loop-key.invariant entries answer stand
    (subst (λ (it : List (List ℕ × KeyValue)). RefreshFrom entries read c.args.from c.loop-key.least (keys_of it) answer) (sym c.in-Some.ensures.steps)
    (inl (c.in-Some-unknown.intent, c.in-Some-unknown.ensures entries c.in-Some.key.now (c.kept.ensures ∙ st.intent), e)))))
    c.unknown_at.ensures

pub returns : goal.returns
returns c = λ entries stand.
    let read = as_read c.args.later.now in
    refresh_walked entries read c.args.from c.requires.limit c.args.keys.now.entries _ c.answer_at_end.result stand (keys_between c.args.keys.now.entries c.args.later.now.span.now c.range-key-items.ensures.ordered)
    (c.loop-key.invariant entries c.answer_at_end.result stand
    (subst (λ (it : List (List ℕ × KeyValue)). RefreshFrom entries read c.args.from c.loop-key.least (keys_of it) c.answer_at_end.result) (sym c.in-None.ensures.steps.0) c.answer_at_end.ensures))
