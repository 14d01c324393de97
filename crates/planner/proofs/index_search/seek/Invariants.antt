use Rattle.std.proofs.Common.{List, drop}
use Rattle.region_sql.specs.declared.row_statements.Term.{Term}
use Rattle.sql_eval.specs.OwnWrites.{reads_through}
use Rattle.sql_eval.specs.Reads.{served_reads}
use Rattle.planner.specs.Searches.{sought_rows}
use Rattle.planner.specs.Turns.{AreSame}
use Rattle.planner.proofs.index_search.seek.Given as goal

-- over all that holds what is known, what is left comes to the same as all of it
abbrev pub invariant-loop-i : goal.invariant-loop-i
invariant-loop-i l =
    (terms : List Term) → AreSame (reads_through l.own (served_reads l.known)) (sought_rows l.t terms l.index l.lookups) (sought_rows l.t terms l.index (drop l.i l.lookups))
