use Rattle.std.proofs.Common.{drop}
use Rattle.sql_eval.specs.OwnWrites.{reads_through}
use Rattle.sql_eval.specs.Reads.{served_reads}
use Rattle.planner.specs.Checks.{meets}
use Rattle.planner.specs.Turns.{AreSame}
use Rattle.planner.proofs.unique_check.pass.Given as goal

-- over all that holds what is known, what is left comes to the same as all of it
abbrev pub invariant-loop-i : goal.invariant-loop-i
invariant-loop-i l =
    AreSame (reads_through l.own (served_reads l.known)) (meets l.replaced l.lookups) (meets l.replaced (drop l.i l.lookups))
