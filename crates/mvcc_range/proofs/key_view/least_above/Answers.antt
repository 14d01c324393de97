use Rattle.std.proofs.Common.{Option, subst, sym}
use Rattle.mr_base.specs.declared.timestamps.Ts.{Ts}
use Rattle.mvcc_range.proofs.SeenLemmas.{least_seen}
use Rattle.mvcc_range.specs.KeyView.{IsLeast, IsSeenAbove, as_read}
use Rattle.mvcc_range.proofs.key_view.least_above.Goals as goal

pub returns : goal.returns
returns c = λ entries key st.
    subst (λ (o : Option Ts). IsLeast (IsSeenAbove entries (as_read c.args.read.now) c.args.above key) o) (sym c.lesser.ensures)
    (least_seen entries (as_read c.args.read.now) key c.args.state.now st c.args.above c.first_above.result c.told_above.result c.first_above.ensures (c.told_above.ensures entries key st))
