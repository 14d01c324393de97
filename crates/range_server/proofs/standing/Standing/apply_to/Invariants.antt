use Rattle.range_server.proofs.LeaseLemmas.{HasApplied}
use Rattle.range_server.proofs.standing.Standing.apply_to.Given as goal

abbrev pub invariant-loop-i : goal.invariant-loop-i
invariant-loop-i l = HasApplied l.fn.self l.log.entries l.i l.self
