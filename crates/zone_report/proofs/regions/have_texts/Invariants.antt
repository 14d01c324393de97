use Rattle.std.proofs.Common.{ℕ, ◌<◌, IsUtf8, get_or}
use Rattle.mr_base.specs.declared.nodes.NodeInfo.{NodeInfo}
use Rattle.zone_report.proofs.regions.have_texts.Given as goal

abbrev pub invariant-loop-node : goal.invariant-loop-node
invariant-loop-node l = (k : ℕ) (other : NodeInfo) → k < l.node-index → IsUtf8 (get_or l.nodes k other).region
