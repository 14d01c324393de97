use Rattle.std.proofs.Common.{◌∙◌}
use Rattle.mvcc_range.proofs.FateLemmas.{not_true}
use Rattle.mvcc_range.proofs.OtherLemmas.{none_below_told, told_not_below}
use Rattle.mvcc_range.specs.KeyView.{as_read}
use Rattle.mvcc_range.proofs.key_view.told_below.Goals as goal

pub returns-then-is_below : goal.returns-then-is_below
returns-then-is_below c = λ entries key st.
    let told = c.in-Some.ensures entries key (c.kept.ensures ∙ st.intent) in
    (c.is_below.ensures.0 c.if-is_below.true, told.0, told.1, told.2, λ j ts t. (told.3 j ts t).1)

pub returns-else-is_below : goal.returns-else-is_below
returns-else-is_below c = λ entries key st.
    let told = c.in-Some.ensures entries key (c.kept.ensures ∙ st.intent) in
    told_not_below entries (as_read c.args.read.now) key c.in-Some.ts told.0 told.3 (not_true c.is_below.result c.if-is_below.false c.is_below.ensures.1)

pub returns-in_default : goal.returns-in_default
returns-in_default c = λ entries key st. none_below_told entries (as_read c.args.read.now) key (c.in_default.ensures entries key (c.kept.ensures ∙ st.intent))
