use Rattle.std.proofs.Common.{◌≡◌, map, drop}
use Rattle.sql_eval.specs.Faults.{first_fault, target_value_fault}
use Rattle.sql_eval.proofs.checks.values_fault.Given as goal

abbrev pub invariant-loop-x : goal.invariant-loop-x
invariant-loop-x l = first_fault (map (target_value_fault l.t l.d) l.targets) ≡ first_fault (map (target_value_fault l.t l.d) (drop l.x-index l.targets))
