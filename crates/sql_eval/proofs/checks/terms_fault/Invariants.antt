use Rattle.std.proofs.Common.{◌≡◌, drop}
use Rattle.sql_eval.specs.Faults.{terms_fault}
use Rattle.sql_eval.proofs.checks.terms_fault.Given as goal

abbrev pub invariant-loop-x : goal.invariant-loop-x
invariant-loop-x l = terms_fault l.t l.terms ≡ terms_fault l.t (drop l.x-index l.terms)
