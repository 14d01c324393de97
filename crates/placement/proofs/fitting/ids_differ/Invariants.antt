use Rattle.std.proofs.Common.{◌≡◌, drop}
use Rattle.placement.specs.Tests.{ids_differ}
use Rattle.placement.proofs.fitting.ids_differ.Given as goal

abbrev pub invariant-loop-i : goal.invariant-loop-i
invariant-loop-i l = ids_differ l.nodes ≡ ids_differ (drop l.i l.nodes)
