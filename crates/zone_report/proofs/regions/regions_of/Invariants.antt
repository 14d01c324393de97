use Rattle.std.proofs.Common.{◌≡◌, [], take}
use Rattle.std.specs.Prelude.{fold}
use Rattle.zone_report.specs.Nodes.{with_region}
use Rattle.zone_report.proofs.regions.regions_of.Given as goal

abbrev pub invariant-loop-node : goal.invariant-loop-node
invariant-loop-node l = l.regions ≡ fold with_region [] (take l.node-index l.nodes)
