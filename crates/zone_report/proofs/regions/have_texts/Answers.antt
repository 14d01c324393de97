use Rattle.std.proofs.Common.{◌∙◌, IsUtf8, ap, sym, subst, true≢false}
use Rattle.zone_report.proofs.Nodes.{one_more}
use Rattle.zone_report.proofs.regions.have_texts.Goals as goal

pub returns-then-not-is_utf8 : goal.returns-then-not-is_utf8
returns-then-not-is_utf8 c = (
  λ yes. absurd (true≢false (sym yes)),
  λ all. sym c.if-not-is_utf8.true
      ∙ c.is_utf8.ensures.means.1 (subst IsUtf8 (ap (λ n. n.region) (sym c.node-item.is) ∙ sym c.as_slice.ensures) (all c.loop-node.node-index c.node-item.result c.loop-node-test.true)),
)

pub loop-node-preserved : goal.loop-node-preserved
loop-node-preserved c =
    one_more (λ k n. IsUtf8 n.region) c.args.nodes.now c.loop-node.node-index c.node-item.result c.loop-node-test.true c.node-item.is
    (subst IsUtf8 c.as_slice.ensures (c.is_utf8.ensures.means.0 c.if-not-is_utf8.false)) c.loop-node.invariant
