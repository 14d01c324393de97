use Rattle.std.proofs.Common.{◌≡◌, drop}
use Rattle.placement.specs.Tests.{zones_differ}
use Rattle.placement.proofs.fitting.zones_differ.Given as goal

abbrev pub invariant-loop-i : goal.invariant-loop-i
invariant-loop-i l = zones_differ l.nodes ≡ zones_differ (drop l.i l.nodes)
