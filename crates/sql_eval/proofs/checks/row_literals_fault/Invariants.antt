use Rattle.std.proofs.Common.{◌≡◌, drop}
use Rattle.sql_eval.specs.Faults.{row_literals_fault}
use Rattle.sql_eval.proofs.checks.row_literals_fault.Given as goal

abbrev pub invariant-loop-i : goal.invariant-loop-i
invariant-loop-i l = row_literals_fault l.t l.d l.names l.row ≡ row_literals_fault l.t l.d (drop l.i l.names) (drop l.i l.row)
