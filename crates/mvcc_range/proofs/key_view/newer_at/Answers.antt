use Rattle.mvcc_range.proofs.FateLemmas.{not_true}
use Rattle.mvcc_range.proofs.ObstacleLemmas.{newer_as, newer_none, newer_past}
use Rattle.mvcc_range.specs.KeyView.{as_read}
use Rattle.mvcc_range.proofs.key_view.newer_at.Goals as goal

pub returns-then-is_below : goal.returns-then-is_below
returns-then-is_below c = λ entries key st.
    newer_as entries (as_read c.args.read.now) key c.args.from c.in-Some.least (c.in-Some.ensures entries key st) (c.is_below.ensures.0 c.if-is_below.true)

pub returns-else-is_below : goal.returns-else-is_below
returns-else-is_below c = λ entries key st.
    newer_past entries (as_read c.args.read.now) key c.args.from c.in-Some.least (c.in-Some.ensures entries key st) (not_true c.is_below.result c.if-is_below.false c.is_below.ensures.1)

pub returns-in_default : goal.returns-in_default
returns-in_default c = λ entries key st. newer_none entries (as_read c.args.read.now) key c.args.from (c.in_default.ensures entries key st)
