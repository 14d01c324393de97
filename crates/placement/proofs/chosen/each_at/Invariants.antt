use Rattle.std.proofs.Common.{◌≡◌, take}
use Rattle.std.specs.Prelude.{map}
use Rattle.placement.specs.Fitting.{ids_of}
use Rattle.placement.specs.Placing.{each_at, other_regions}
use Rattle.placement.proofs.chosen.each_at.Given as goal

abbrev pub invariant-loop-count : goal.invariant-loop-count
invariant-loop-count l = l.found.items ≡ ids_of (each_at l.place l.nodes (other_regions l.home (map (λ k. k.0) (take l.count-index l.counts))))
