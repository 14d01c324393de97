use Rattle.range_server.specs.Resolving.{AreResolvedTo}
use Rattle.range_server.proofs.standing.Standing.resolve_each.Given as goal

abbrev pub invariant-loop-key : goal.invariant-loop-key
invariant-loop-key l = AreResolvedTo l.attempt l.keys l.key-index l.fate l.fn.log l.log l.fn.self l.self
