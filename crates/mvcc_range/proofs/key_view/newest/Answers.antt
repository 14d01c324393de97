use Rattle.std.proofs.Common.{ℕ, List, Option, subst, sym}
use Rattle.std.specs.Borrow.{Bor}
use Rattle.mr_base.specs.declared.timestamps.Ts.{Ts}
use Rattle.mvcc_range.proofs.RowLemmas.{newest_of}
use Rattle.mvcc_range.specs.KeyView.{IsNewestAt, as_read}
use Rattle.mvcc_range.proofs.key_view.newest.Goals as goal

pub returns : goal.returns
returns c = λ entries key st.
    subst (λ (o : Option (Ts × Bor (Option (List ℕ)))). IsNewestAt entries (as_read c.args.read.now) key o) (sym c.later.ensures)
    (newest_of entries (as_read c.args.read.now) key c.args.state.now st c.last_below.result c.told_below.result c.last_below.ensures (c.told_below.ensures entries key st))
