use Rattle.mvcc_range.proofs.RowLemmas.{row_none, row_of}
use Rattle.mvcc_range.specs.KeyView.{as_read}
use Rattle.mvcc_range.proofs.key_view.row_at.Goals as goal

pub returns : goal.returns
returns c = λ entries key st.
    row_of entries (as_read c.args.read.now) key c.in-Some.field-0-0 c.in-Some.value.now c.as_ref.result c.as_ref.ensures.value (c.in-Some.ensures entries key st)

pub returns-in_default : goal.returns-in_default
returns-in_default c = λ entries key st. row_none entries (as_read c.args.read.now) key (c.in_default.ensures entries key st)
