use Rattle.std.proofs.Common.{◌∙◌}
use Rattle.mvcc_range.proofs.ObstacleLemmas.{clear_none, clear_past, clear_without, uncertain_at}
use Rattle.mvcc_range.specs.KeyView.{as_read}
use Rattle.mvcc_range.proofs.key_view.obstacle_at.Goals as goal

pub returns-in-Some : goal.returns-in-Some
returns-in-Some c = λ entries key st. c.in-Some.ensures entries key (c.kept.ensures ∙ st.intent)

pub returns-in_default-limit : goal.returns-in_default-limit
returns-in_default-limit c = λ entries key st.
    clear_without entries (as_read c.args.read.now) key (c.in_default.ensures entries key (c.kept.ensures ∙ st.intent)) c.in_default-limit.is

pub returns-in_default-least_above : goal.returns-in_default-least_above
returns-in_default-least_above c = λ entries key st.
    clear_none entries (as_read c.args.read.now) key (c.in_default.ensures entries key (c.kept.ensures ∙ st.intent)) (c.in_default-least_above.ensures entries key st)

pub returns-then-least-limit : goal.returns-then-least-limit
returns-then-least-limit c = λ entries key st.
    let found = uncertain_at entries (as_read c.args.read.now) key c.in-Some-limit.limit c.in-Some-least_above.least c.in-Some-limit.is (c.in-Some-least_above.ensures entries key st) c.if-least-limit.true in
    (c.in_default.ensures entries key (c.kept.ensures ∙ st.intent), found.0, found.1)

pub returns-else-least-limit : goal.returns-else-least-limit
returns-else-least-limit c = λ entries key st.
    clear_past entries (as_read c.args.read.now) key c.in-Some-limit.limit c.in-Some-least_above.least (c.in_default.ensures entries key (c.kept.ensures ∙ st.intent)) c.in-Some-limit.is (c.in-Some-least_above.ensures entries key st) c.if-least-limit.false
