use Rattle.sql_eval.specs.Reads.{served_reads}
use Rattle.planner.proofs.ProgressLemmas.{IsGoing}
use Rattle.planner.proofs.progress.advance_in.Given as goal

abbrev pub invariant-loop-i : goal.invariant-loop-i
invariant-loop-i l = IsGoing l.setting l.list (served_reads l.known) l.fn.p l.at l.i
