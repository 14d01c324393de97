use Rattle.std.proofs.Common.{◌≡◌, drop}
use Rattle.sql_eval.specs.OwnWrites.{with_writes}
use Rattle.planner.proofs.own_writes.OwnWrites.make.Given as goal

abbrev pub invariant-loop-w : goal.invariant-loop-w
invariant-loop-w l = with_writes l.self (drop l.w-index l.writes) ≡ with_writes l.fn.self l.writes
