use Rattle.std.proofs.Common.{sym, ◌∙◌}
use Rattle.mvcc_range.proofs.FateLemmas.{id_other, id_same, not_true}
use Rattle.mvcc_range.proofs.OtherLemmas.{far_other, none_other, own_other, this_other}
use Rattle.mvcc_range.specs.KeyView.{as_read}
use Rattle.mvcc_range.proofs.read_view.ReadView.others.Goals as goal

pub returns-in_default : goal.returns-in_default
returns-in_default c = λ entries key is. none_other entries (as_read c.args.self.now) key (sym c.in_default.is ∙ is)

pub returns-then-eq : goal.returns-then-eq
returns-then-eq c = λ entries key is.
    own_other entries (as_read c.args.self.now) key c.in-Some.kept (sym c.in-Some.is ∙ is)
    (id_same c.in-Some.kept.intent.attempt c.args.self.now.attempt (sym c.eq.ensures ∙ c.if-eq.true))

pub returns-then-looks_at : goal.returns-then-looks_at
returns-then-looks_at c = λ entries key is.
    this_other entries (as_read c.args.self.now) key c.in-Some.kept (sym c.in-Some.is ∙ is)
    (id_other c.in-Some.kept.intent.attempt c.args.self.now.attempt (sym c.eq.ensures ∙ c.if-eq.false))
    (c.looks_at.ensures.0 c.if-looks_at.true)

pub returns-else-looks_at : goal.returns-else-looks_at
returns-else-looks_at c = λ entries key is.
    far_other entries (as_read c.args.self.now) key c.in-Some.kept (sym c.in-Some.is ∙ is)
    (not_true c.looks_at.result c.if-looks_at.false c.looks_at.ensures.1)
