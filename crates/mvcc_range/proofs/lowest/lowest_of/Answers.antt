use Rattle.std.proofs.Common.{[], None, refl, sym, ◌∙◌}
use Rattle.mvcc_range.proofs.KeyOrder.{no_keys, not_lt_key}
use Rattle.mvcc_range.proofs.LookupLemmas.{lowest_walked}
use Rattle.mvcc_range.proofs.lowest.lowest_of.Goals as goal

pub returns-else-lt : goal.returns-else-lt
returns-else-lt c = λ entries stand.
    lowest_walked entries c.args.keys.now.entries c.args.span.now c.args.reader [] None stand
    (no_keys c.args.keys.now.entries c.args.span.now (not_lt_key c.args.span.now.lo c.args.span.now.hi (sym c.lt.ensures ∙ c.if-lt.false))) refl
