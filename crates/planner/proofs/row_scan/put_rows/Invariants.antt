use Rattle.std.proofs.Common.{◌≡◌, drop, map}
use Rattle.descriptors.specs.Contents.{Contents}
use Rattle.row_locality.specs.Pairs.{key_value, put_all}
use Rattle.sql_eval.specs.Evaluation.{rows_in}
use Rattle.planner.specs.Phases.{AreKeyedRowsOf}
use Rattle.planner.specs.Scans.{LivesIn}
use Rattle.planner.proofs.row_scan.put_rows.Given as goal

-- the rows that are left, put to those so far, are all of them put to the first
abbrev pub invariant-loop-pair : goal.invariant-loop-pair
invariant-loop-pair l = record {
  put : put_all (rows_in l.t (l.lookup, map key_value (drop l.pair-index l.pairs))) l.rows ≡ put_all (rows_in l.t (l.lookup, map key_value l.pairs)) l.fn.rows;
  rows : (c : Contents) → LivesIn c l.t l.lookup.partition.region → AreKeyedRowsOf c l.t l.fn.rows → AreKeyedRowsOf c l.t l.rows;
}
