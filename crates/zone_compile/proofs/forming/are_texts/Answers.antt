use Rattle.std.proofs.Common.{◌∙◌, ℕ, List, IsUtf8, ap, arith, refl, subst, sym, true≢false}
use Rattle.zone_compile.proofs.Formed.{onward}
use Rattle.zone_compile.proofs.forming.are_texts.Goals as goal

pub returns-then-not-is_utf8 : goal.returns-then-not-is_utf8
returns-then-not-is_utf8 c = (
  λ yes. absurd (true≢false (sym yes)),
  λ all. sym c.if-not-is_utf8.true
      ∙ c.is_utf8.ensures.means.1 (subst IsUtf8 (ap (λ k. k.0) (sym c.count-item.is) ∙ sym c.as_slice.ensures) (all c.loop-count.count-index c.count-item.result c.loop-count-test.true)),
)

pub loop-count-preserved : goal.loop-count-preserved
loop-count-preserved c =
    onward (λ (k : List ℕ × ℕ). IsUtf8 k.0) c.args.counts.now c.loop-count.count-index c.count-item.result c.loop-count-test.true c.count-item.is
    (subst IsUtf8 c.as_slice.ensures (c.is_utf8.ensures.means.0 c.if-not-is_utf8.false)) c.loop-count.invariant

pub returns : goal.returns
returns c = (λ yes k d lt. c.loop-count.invariant k d (omega (arith, lt, c.loop-count-test.false)), λ h. refl)
