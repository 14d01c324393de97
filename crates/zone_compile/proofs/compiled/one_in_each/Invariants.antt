use Rattle.std.proofs.Common.{◌≡◌, take}
use Rattle.zone_compile.specs.Configuration.{one_in_each}
use Rattle.zone_compile.proofs.compiled.one_in_each.Given as goal

abbrev pub invariant-loop-region : goal.invariant-loop-region
invariant-loop-region l = l.counts ≡ one_in_each (take l.region-index l.regions)
