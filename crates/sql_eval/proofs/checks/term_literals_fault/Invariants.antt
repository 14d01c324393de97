use Rattle.std.proofs.Common.{◌≡◌, drop}
use Rattle.sql_eval.specs.Faults.{term_literals_fault}
use Rattle.sql_eval.proofs.checks.term_literals_fault.Given as goal

abbrev pub invariant-loop-x : goal.invariant-loop-x
invariant-loop-x l = term_literals_fault l.t l.d l.terms ≡ term_literals_fault l.t l.d (drop l.x-index l.terms)
