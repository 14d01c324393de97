use Rattle.std.proofs.Common.{◌≡◌, take}
use Rattle.placement.specs.Tests.{found}
use Rattle.placement.proofs.fitting.found.Given as goal

abbrev pub invariant-loop-id : goal.invariant-loop-id
invariant-loop-id l = l.list ≡ found l.nodes (take l.id-index l.ids)
