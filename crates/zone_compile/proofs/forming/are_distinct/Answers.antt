use Rattle.std.proofs.Common.{◌∙◌, arith, refl, sym, true≢false}
use Rattle.zone_compile.proofs.Formed.{distinct_all, distinct_more, named_twice}
use Rattle.zone_compile.proofs.forming.are_distinct.Goals as goal

pub loop-i-init : goal.loop-i-init
loop-i-init c = λ i j d lt within. absurd (omega arith)

pub returns-then-names_region : goal.returns-then-names_region
returns-then-names_region c = (
  λ yes. absurd (true≢false (sym yes)),
  λ distinct. absurd (named_twice c.args.counts.now c.loop-i.i c.index-counts-i.result c.loop-i-test.true c.index-counts-i.is (sym c.names_region.ensures ∙ c.if-names_region.true) distinct),
)

pub loop-i-preserved : goal.loop-i-preserved
loop-i-preserved c = distinct_more c.args.counts.now c.loop-i.i c.index-counts-i.result c.loop-i-test.true c.index-counts-i.is (sym c.names_region.ensures ∙ c.if-names_region.false) c.loop-i.invariant

pub returns : goal.returns
returns c = (λ yes. distinct_all c.args.counts.now c.loop-i.i c.loop-i-test.false c.loop-i.invariant, λ h. refl)
