use Rattle.std.proofs.Common.{sym, ◌∙◌}
use Rattle.mvcc_range.proofs.FateLemmas.{fate_none, fate_tells, not_true}
use Rattle.mvcc_range.proofs.OtherLemmas.{unknown_as, unknown_settled}
use Rattle.mr_base.specs.declared.messages.Fate.{Fate}
use Rattle.mvcc_range.specs.Answer.{Settles}
use Rattle.mvcc_range.specs.KeyView.{as_read}
use Rattle.mvcc_range.proofs.read_view.ReadView.unknown.Goals as goal
use Rattle.std.proofs.Common.{subst}

pub returns-in_default-last_fate : goal.returns-in_default-last_fate
returns-in_default-last_fate c = λ entries key is.
    let kept = c.in-Some.kept.now in
    let other = c.in-Some.ensures entries key is in
    unknown_as entries (as_read c.args.self.now) key kept other.0
    (λ f t s. fate_none c.args.self.now.known.now kept.intent.attempt (sym c.last_fate.ensures ∙ c.in_default-last_fate.is) f t)

pub returns-then-settles : goal.returns-then-settles
returns-then-settles c = λ entries key is.
    let kept = c.in-Some.kept.now in
    let other = c.in-Some.ensures entries key is in
    let tells = fate_tells c.args.self.now.known.now kept.intent.attempt c.in-Some-last_fate.fate (sym c.last_fate.ensures ∙ c.in-Some-last_fate.is) in
    unknown_settled entries (as_read c.args.self.now) key kept other.1 c.in-Some-last_fate.fate tells.0 (c.settles.ensures.0 c.if-settles.true)

pub returns-else-settles : goal.returns-else-settles
returns-else-settles c = λ entries key is.
    let kept = c.in-Some.kept.now in
    let other = c.in-Some.ensures entries key is in
    let tells = fate_tells c.args.self.now.known.now kept.intent.attempt c.in-Some-last_fate.fate (sym c.last_fate.ensures ∙ c.in-Some-last_fate.is) in
    unknown_as entries (as_read c.args.self.now) key kept other.0
    (λ f t s. not_true c.settles.result c.if-settles.false c.settles.ensures.1 (subst (λ (g : Fate). Settles c.args.self.now.at g) (tells.1 f t) s))
