use Rattle.std.proofs.Common.{List, ℕ, Option, None, refl, subst, sym, ◌∙◌}
use Rattle.std.proofs.lemmas.Map.Views.{All-turn}
use Rattle.std.specs.BTreeMap.Range.{IsEntryInRange}
use Rattle.std.specs.Cmp.Lexicographic.{slice_cmp}
use Rattle.std.specs.Map.{keys_of}
use Rattle.std.specs.Map.Iter.{deref_pair}
use Rattle.std.specs.Ordering.{nat_cmp}
use Rattle.std.specs.declared.ops.Bound.TheVariants.{Excluded, Included}
use Rattle.mr_base.specs.declared.timestamps.Ts.{Ts}
use Rattle.mvcc_range.proofs.KeyOrder.{keys_between, stands_at}
use Rattle.mvcc_range.proofs.LeastWalk.{LeastFrom}
use Rattle.mvcc_range.proofs.LookupLemmas.{lowest_walked}
use Rattle.mvcc_range.specs.KeyValue.{KeyValue}
use Rattle.mvcc_range.specs.Walks.{IsOthersAt}
use Rattle.mvcc_range.proofs.lowest.lowest_between.Goals as goal

pub loop-state-init : goal.loop-state-init
loop-state-init c = λ entries answer stand from.
    let whole = c.into_iter-state-iterator.ensures.into_iter_gives ∙ c.range-state-items.ensures.between tt in
    subst (λ (it : List (List ℕ × KeyValue)). LeastFrom (IsOthersAt entries c.args.reader) c.args.span.now None (keys_of it) answer) whole from

pub loop-state-preserved : goal.loop-state-preserved
loop-state-preserved c = λ entries answer stand from.
    let entry = All-turn deref_pair (IsEntryInRange (slice_cmp nat_cmp) (Included c.args.span.now.lo) (Excluded c.args.span.now.hi) c.args.keys.now) _ _ _ _ _ _ _ (c.range-state-items.ensures.in_range tt).0
    c.into_iter-state-iterator.ensures.into_iter_gives c.loop-state.yielded_by c.in-Some.is c.next.ensures.steps in
    let st = stands_at entries c.args.keys.now.entries c.in-Some.field-0-0.now c.in-Some.state.now stand entry.1 in
    c.loop-state.invariant entries answer stand
    (subst (λ (it : List (List ℕ × KeyValue)). LeastFrom (IsOthersAt entries c.args.reader) c.args.span.now c.loop-state.least (keys_of it) answer) (sym c.in-Some.ensures.steps)
    (c.others_ts.result, c.others_ts.ensures entries c.in-Some.field-0-0.now st, subst (λ (o : Option Ts). LeastFrom (IsOthersAt entries c.args.reader) c.args.span.now o (keys_of c.next.new.self) answer) c.lesser-least.ensures from))

pub returns : goal.returns
returns c = λ entries stand.
    lowest_walked entries c.args.keys.now.entries c.args.span.now c.args.reader _ c.loop-state.least stand (keys_between c.args.keys.now.entries c.args.span.now c.range-state-items.ensures.ordered)
    (c.loop-state.invariant entries c.loop-state.least stand
    (subst (λ (it : List (List ℕ × KeyValue)). LeastFrom (IsOthersAt entries c.args.reader) c.args.span.now c.loop-state.least (keys_of it) c.loop-state.least) (sym c.in-None.ensures.steps.0) refl))
