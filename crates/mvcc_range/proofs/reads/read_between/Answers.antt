use Rattle.std.proofs.Common.{List, ℕ, inl, inr, refl, subst, sym, ◌∙◌}
use Rattle.std.proofs.lemmas.Map.Views.{All-turn}
use Rattle.std.proofs.lemmas.Result.{IfOk-weaker}
use Rattle.std.specs.BTreeMap.Range.{IsEntryInRange}
use Rattle.std.specs.Cmp.Lexicographic.{slice_cmp}
use Rattle.std.specs.Map.{keys_of}
use Rattle.std.specs.Map.Iter.{deref_pair}
use Rattle.std.specs.Ordering.{nat_cmp}
use Rattle.std.specs.declared.ops.Bound.TheVariants.{Excluded, Included}
use Rattle.mr_base.specs.declared.spans.Pair.{Pair}
use Rattle.mvcc_range.proofs.KeyOrder.{keys_between, span_keys, stands_at}
use Rattle.mvcc_range.proofs.ReadWalk.{AnswerFrom, read_walked}
use Rattle.mvcc_range.specs.KeyValue.{KeyValue}
use Rattle.mvcc_range.specs.KeyView.{as_read}
use Rattle.mvcc_range.specs.declared.answers.ReadAnswer.TheVariants.{Rows}
use Rattle.mvcc_range.proofs.reads.read_between.Goals as goal

pub loop-key-init : goal.loop-key-init
loop-key-init c = λ entries answer stand from.
    let read = as_read c.args.read.now in
    let whole = c.into_iter-key-iterator.ensures.into_iter_gives ∙ c.range-key-items.ensures.between tt in
    subst (λ (rows : List Pair). AnswerFrom entries read rows (span_keys c.args.read.now.span.now c.args.keys.now.entries) answer) c.new-rows.ensures
    (subst (λ (it : List (List ℕ × KeyValue)). AnswerFrom entries read c.new-rows.result (keys_of it) answer) whole from)

pub loop-key-preserved : goal.loop-key-preserved
loop-key-preserved c = λ entries answer stand from.
    let read = as_read c.args.read.now in
    let entry = All-turn deref_pair (IsEntryInRange (slice_cmp nat_cmp) (Included c.args.read.now.span.now.lo) (Excluded c.args.read.now.span.now.hi) c.args.keys.now) _ _ _ _ _ _ _ (c.range-key-items.ensures.in_range tt).0
    c.into_iter-key-iterator.ensures.into_iter_gives c.loop-key.yielded_by c.in-Some.is c.next.ensures.steps in
    let st = stands_at entries c.args.keys.now.entries c.in-Some.key.now c.in-Some.state.now stand entry.1 in
    c.loop-key.invariant entries answer stand
    (subst (λ (it : List (List ℕ × KeyValue)). AnswerFrom entries read c.loop-key.rows (keys_of it) answer) (sym c.in-Some.ensures.steps)
    (inr (
      c.in_default.ensures entries c.in-Some.key.now st,
      c.row_at.result,
      c.row_at.ensures entries c.in-Some.key.now st,
      subst (λ (rows : List Pair). AnswerFrom entries read rows (keys_of c.next.new.self) answer) c.in_ok-push_row.ensures from,
    )))

pub returns-in-Some-obstacle_at : goal.returns-in-Some-obstacle_at
returns-in-Some-obstacle_at c =
    IfOk-weaker c.stopped.result _ _
    (λ answer e entries stand.
    let read = as_read c.args.read.now in
    let entry = All-turn deref_pair (IsEntryInRange (slice_cmp nat_cmp) (Included c.args.read.now.span.now.lo) (Excluded c.args.read.now.span.now.hi) c.args.keys.now) _ _ _ _ _ _ _ (c.range-key-items.ensures.in_range tt).0
    c.into_iter-key-iterator.ensures.into_iter_gives c.loop-key.yielded_by c.in-Some.is c.next.ensures.steps in
    let st = stands_at entries c.args.keys.now.entries c.in-Some.key.now c.in-Some.state.now stand entry.1 in
    read_walked entries read c.args.keys.now.entries _ answer stand (keys_between c.args.keys.now.entries c.args.read.now.span.now c.range-key-items.ensures.ordered)
    (c.loop-key.invariant entries answer stand
    (subst (λ (it : List (List ℕ × KeyValue)). AnswerFrom entries read c.loop-key.rows (keys_of it) answer) (sym c.in-Some.ensures.steps)
    (inl (c.in-Some-obstacle_at.obstacle, c.in-Some-obstacle_at.ensures entries c.in-Some.key.now st, e)))))
    c.stopped.ensures

pub returns : goal.returns
returns c = λ entries stand.
    let read = as_read c.args.read.now in
    read_walked entries read c.args.keys.now.entries _ (Rows c.loop-key.rows) stand (keys_between c.args.keys.now.entries c.args.read.now.span.now c.range-key-items.ensures.ordered)
    (c.loop-key.invariant entries (Rows c.loop-key.rows) stand
    (subst (λ (it : List (List ℕ × KeyValue)). AnswerFrom entries read c.loop-key.rows (keys_of it) (Rows c.loop-key.rows)) (sym c.in-None.ensures.steps.0) refl))
