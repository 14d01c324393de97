use Rattle.std.proofs.Common.{◌≡◌, Some, ap, refl, sym, ◌∙◌}
use Rattle.mvcc_range.proofs.FateLemmas.{fate_is, fate_none, fate_tells, some_fate}
use Rattle.mvcc_range.proofs.OtherLemmas.{told_as, told_not}
use Rattle.mr_base.specs.declared.messages.Fate.TheVariants.{Committed}
use Rattle.mr_base.specs.declared.messages.Fate.{Fate}
use Rattle.mvcc_range.specs.KeyView.{as_read, last_fate}
use Rattle.mvcc_range.proofs.read_view.ReadView.told.Goals as goal

pub returns : goal.returns
returns c = λ entries key is.
    let kept = c.in-Some.kept.now in
    let other = c.in-Some.ensures entries key is in
    let fate : last_fate kept.intent.attempt c.args.self.now.known.now ≡ Some (Committed c.in-Committed.ts) =
    sym c.last_fate.ensures ∙ c.in-Some-last_fate.is ∙ ap (λ (f : Fate). Some f) c.in-Committed.is in
    let tells = fate_tells c.args.self.now.known.now kept.intent.attempt (Committed c.in-Committed.ts) fate in
    told_as entries (as_read c.args.self.now) key kept other.1 c.in-Committed.ts kept.value other.0 tells.0 tells.1 refl

pub returns-in_default-fate : goal.returns-in_default-fate
returns-in_default-fate c = λ entries key is.
    let kept = c.in-Some.kept.now in
    let other = c.in-Some.ensures entries key is in
    told_not entries (as_read c.args.self.now) key kept other.1
    (λ ts t. c.in_default-fate.not-Committed ts (some_fate (sym c.in-Some-last_fate.is ∙ c.last_fate.ensures ∙ fate_is c.args.self.now.known.now kept.intent.attempt (Committed ts) t)))

pub returns-in_default-last_fate : goal.returns-in_default-last_fate
returns-in_default-last_fate c = λ entries key is.
    let kept = c.in-Some.kept.now in
    let other = c.in-Some.ensures entries key is in
    told_not entries (as_read c.args.self.now) key kept other.1
    (λ ts t. fate_none c.args.self.now.known.now kept.intent.attempt (sym c.last_fate.ensures ∙ c.in_default-last_fate.is) (Committed ts) t)
