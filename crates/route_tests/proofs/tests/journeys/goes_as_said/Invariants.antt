use Rattle.std.proofs.Common.{◌≡◌, length}
use Rattle.route_tests.proofs.tests.journeys.goes_as_said.Given as goal

abbrev pub invariant-loop-step : goal.invariant-loop-step
invariant-loop-step l = length l.hints ≡ 1
