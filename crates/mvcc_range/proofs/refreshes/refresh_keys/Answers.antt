use Rattle.std.proofs.Common.{[], refl, sym, ◌∙◌}
use Rattle.mvcc_range.proofs.KeyOrder.{no_keys, not_lt_key}
use Rattle.mvcc_range.proofs.RefreshWalk.{refresh_walked}
use Rattle.mvcc_range.specs.KeyView.{as_read}
use Rattle.mvcc_range.specs.declared.answers.RefreshAnswer.TheVariants.{Done}
use Rattle.mvcc_range.proofs.refreshes.refresh_keys.Goals as goal

pub returns-else-lt : goal.returns-else-lt
returns-else-lt c = λ entries stand.
    refresh_walked entries (as_read c.args.later.now) c.args.from c.requires c.args.keys.now.entries [] Done stand
    (no_keys c.args.keys.now.entries c.args.later.now.span.now (not_lt_key c.args.later.now.span.now.lo c.args.later.now.span.now.hi (sym c.lt.ensures ∙ c.if-lt.false))) refl
