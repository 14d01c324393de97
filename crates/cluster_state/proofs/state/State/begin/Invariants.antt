use Rattle.cluster_state.specs.Making.{IsOnTheWay}
use Rattle.cluster_state.proofs.state.State.begin.Given as goal

abbrev pub invariant-loop-place : goal.invariant-loop-place
invariant-loop-place l = IsOnTheWay l.fn.self l.self l.place
