use Rattle.std.proofs.Common.{◌∙◌}
use Rattle.mvcc_range.proofs.FateLemmas.{not_true}
use Rattle.mvcc_range.proofs.OtherLemmas.{none_above_told, told_above_as, told_not_above}
use Rattle.mvcc_range.specs.KeyView.{as_read}
use Rattle.mvcc_range.proofs.key_view.told_above.Goals as goal

pub returns-then-is_below : goal.returns-then-is_below
returns-then-is_below c = λ entries key st.
    let told = c.in-Some.ensures entries key (c.kept.ensures ∙ st.intent) in
    told_above_as entries (as_read c.args.read.now) key c.args.above c.in-Some.ts told.0 told.1 told.3 (c.is_below.ensures.0 c.if-is_below.true)

pub returns-else-is_below : goal.returns-else-is_below
returns-else-is_below c = λ entries key st.
    let told = c.in-Some.ensures entries key (c.kept.ensures ∙ st.intent) in
    told_not_above entries (as_read c.args.read.now) key c.args.above c.in-Some.ts told.0 told.3 (not_true c.is_below.result c.if-is_below.false c.is_below.ensures.1)

pub returns-in_default : goal.returns-in_default
returns-in_default c = λ entries key st.
    none_above_told entries (as_read c.args.read.now) key c.args.above (c.in_default.ensures entries key (c.kept.ensures ∙ st.intent))
