use Rattle.std.proofs.Common.{◌≡◌, take}
use Rattle.placement.specs.Fitting.{ids_of}
use Rattle.placement.specs.Placing.{in_region, one_per_zone}
use Rattle.placement.proofs.chosen.one_per_zone.Given as goal

abbrev pub invariant-loop-i : goal.invariant-loop-i
invariant-loop-i l = l.found.items ≡ ids_of (one_per_zone (in_region l.region (take l.i l.nodes)))
