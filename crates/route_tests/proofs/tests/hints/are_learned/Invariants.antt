use Rattle.std.proofs.Common.{◌≡◌, length}
use Rattle.route_tests.proofs.tests.hints.are_learned.Given as goal

abbrev pub invariant-loop-news : goal.invariant-loop-news
invariant-loop-news l = length l.hints ≡ 3
