use Rattle.std.proofs.Common.{◌≡◌, ℕ, ◌+◌, ◌<◌, get_or}
use Rattle.mr_base.specs.declared.nodes.NodeInfo.{NodeInfo}
use Rattle.zone_report.proofs.regions.are_numbered.Given as goal

abbrev pub invariant-loop-place : goal.invariant-loop-place
invariant-loop-place l = (k : ℕ) (other : NodeInfo) → k < l.place → (get_or l.nodes k other).id.0 ≡ k + 1
