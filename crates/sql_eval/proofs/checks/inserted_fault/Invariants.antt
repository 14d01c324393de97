use Rattle.std.proofs.Common.{◌≡◌, [], take, drop}
use Rattle.sql_eval.specs.Faults.{inserted_fault}
use Rattle.sql_eval.proofs.checks.inserted_fault.Given as goal

abbrev pub invariant-loop-i : goal.invariant-loop-i
invariant-loop-i l = inserted_fault l.t [] l.names ≡ inserted_fault l.t (take l.i l.names) (drop l.i l.names)
