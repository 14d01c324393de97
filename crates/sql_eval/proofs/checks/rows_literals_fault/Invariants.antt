use Rattle.std.proofs.Common.{◌≡◌, map, drop}
use Rattle.sql_eval.specs.Faults.{first_fault, row_literals_fault}
use Rattle.sql_eval.proofs.checks.rows_literals_fault.Given as goal

abbrev pub invariant-loop-row : goal.invariant-loop-row
invariant-loop-row l = first_fault (map (row_literals_fault l.t l.d l.names) l.rows) ≡ first_fault (map (row_literals_fault l.t l.d l.names) (drop l.row-index l.rows))
