use Rattle.std.proofs.Common.{sym, ◌∙◌}
use Rattle.mvcc_range.proofs.FateLemmas.{id_other, id_same}
use Rattle.mvcc_range.proofs.LookupLemmas.{others_none, others_own, others_there}
use Rattle.mvcc_range.proofs.lowest.others_ts.Goals as goal

pub returns-in_default : goal.returns-in_default
returns-in_default c = λ entries key st. others_none entries c.args.reader key (sym c.in_default.is ∙ c.kept.ensures ∙ st.intent)

pub returns-then-eq : goal.returns-then-eq
returns-then-eq c = λ entries key st.
    others_own entries c.args.reader key c.in-Some.kept (sym c.in-Some.is ∙ c.kept.ensures ∙ st.intent)
    (id_same c.in-Some.kept.intent.attempt c.args.reader (sym c.eq.ensures ∙ c.if-eq.true))

pub returns-else-eq : goal.returns-else-eq
returns-else-eq c = λ entries key st.
    others_there entries c.args.reader key c.in-Some.kept (sym c.in-Some.is ∙ c.kept.ensures ∙ st.intent)
    (id_other c.in-Some.kept.intent.attempt c.args.reader (sym c.eq.ensures ∙ c.if-eq.false))
