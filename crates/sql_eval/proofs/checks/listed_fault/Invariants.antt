use Rattle.std.proofs.Common.{◌≡◌, map, drop}
use Rattle.sql_eval.specs.Faults.{first_fault, unknown_fault}
use Rattle.sql_eval.proofs.checks.listed_fault.Given as goal

abbrev pub invariant-loop-name : goal.invariant-loop-name
invariant-loop-name l = first_fault (map (unknown_fault l.t) l.names) ≡ first_fault (map (unknown_fault l.t) (drop l.name-index l.names))
