use Rattle.std.proofs.Common.{drop}
use Rattle.std.specs.List.{AllByRecursion}
use Rattle.descriptors.specs.Contents.{Contents}
use Rattle.sql_eval.specs.OwnWrites.{reads_through}
use Rattle.sql_eval.specs.Reads.{served_reads}
use Rattle.planner.specs.Phases.{AreKeyedRowsOf, IsLookupFor}
use Rattle.planner.specs.Scans.{scans}
use Rattle.planner.specs.Turns.{AreSame}
use Rattle.planner.proofs.row_scan.scan.Given as goal

-- over all that holds what is known, what is left, put to the rows so far, comes to the same as all of it
abbrev pub invariant-loop-i : goal.invariant-loop-i
invariant-loop-i l = record {
  same : AreSame (reads_through l.own (served_reads l.known)) (scans l.t l.lookups l.fn.rows) (scans l.t (drop l.i l.lookups) l.rows);
  rows : (c : Contents) → AllByRecursion (IsLookupFor c l.t) l.lookups → AreKeyedRowsOf c l.t l.fn.rows → AreKeyedRowsOf c l.t l.rows;
}
