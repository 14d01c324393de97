use Rattle.std.proofs.Common.{◌≡◌, take}
use Rattle.placement.specs.Fitting.{ids_of}
use Rattle.placement.specs.Placing.{in_region}
use Rattle.placement.proofs.chosen.nodes_in.Given as goal

abbrev pub invariant-loop-node : goal.invariant-loop-node
invariant-loop-node l = l.found.items ≡ ids_of (in_region l.region (take l.node-index l.nodes))
