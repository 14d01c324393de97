use Rattle.std.proofs.Common.{sym}
use Rattle.local_search.proofs.RowValues.{shorter, other, same_so_far, both_end, longer}
use Rattle.local_search.proofs.row_values.are_same.Goals as goal

pub returns-in_default : goal.returns-in_default
returns-in_default c = shorter c.args.before.now c.args.after.now c.loop-i.i c.index-before-i.result _ c.loop-i-test.true c.index-before-i.is c.in_default.ensures c.loop-i.invariant

pub returns-then-is_other : goal.returns-then-is_other
returns-then-is_other c =
    other c.args.before.now c.args.after.now c.loop-i.i c.index-before-i.result c.in-Some.w.now _ c.loop-i-test.true c.index-before-i.is c.in-Some.ensures (sym c.if-is_other.ensures) c.loop-i.invariant

pub loop-i-preserved : goal.loop-i-preserved
loop-i-preserved c =
    same_so_far c.args.before.now c.args.after.now c.loop-i.i c.index-before-i.result c.in-Some.w.now _ c.loop-i-test.true c.index-before-i.is c.in-Some.ensures (sym c.if-is_other.ensures)
    c.loop-i.invariant

pub returns-in-None : goal.returns-in-None
returns-in-None c = both_end c.args.before.now c.args.after.now c.loop-i.i _ c.loop-i-test.false c.loop-i.auto.i-end c.in-None.ensures c.loop-i.invariant

pub returns-in-Some-value_at : goal.returns-in-Some-value_at
returns-in-Some-value_at c = longer c.args.before.now c.args.after.now c.loop-i.i _ _ c.loop-i-test.false c.loop-i.auto.i-end c.in-Some-value_at.ensures c.loop-i.invariant
