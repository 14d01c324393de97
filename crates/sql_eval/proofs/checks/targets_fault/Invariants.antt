use Rattle.std.proofs.Common.{◌≡◌, [], map, take, drop}
use Rattle.sql_eval.specs.Faults.{targets_fault}
use Rattle.sql_eval.proofs.checks.targets_fault.Given as goal

abbrev pub invariant-loop-i : goal.invariant-loop-i
invariant-loop-i l = targets_fault l.t [] l.targets ≡ targets_fault l.t (map (λ x. x.column) (take l.i l.targets)) (drop l.i l.targets)
