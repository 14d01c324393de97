use Rattle.std.proofs.Common.{◌≡◌, ◌++◌}
use Rattle.sql_eval.specs.OwnWrites.{writes_of}
use Rattle.planner.proofs.own_writes.OwnWrites.writes.Given as goal

-- what is written with what is left to write is all
abbrev pub invariant-loop-place : goal.invariant-loop-place
invariant-loop-place l = l.writes ++ writes_of l.place-iterator ≡ writes_of l.self
