use Rattle.std.proofs.Common.{◌≡◌, drop}
use Rattle.planner.specs.Numbered.{first_covering, those_numbered}
use Rattle.planner.proofs.known_spans.first_numbered.Given as goal

-- the first of those that are left is the first of all
abbrev pub invariant-loop-number : goal.invariant-loop-number
invariant-loop-number l = first_covering l.ask (those_numbered l.fed l.numbers) ≡ first_covering l.ask (those_numbered l.fed (drop l.number-index l.numbers))
