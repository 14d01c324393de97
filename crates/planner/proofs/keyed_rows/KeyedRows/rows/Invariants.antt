use Rattle.std.proofs.Common.{◌≡◌, ◌++◌}
use Rattle.sql_eval.specs.Evaluation.{rows_of}
use Rattle.planner.proofs.keyed_rows.KeyedRows.rows.Given as goal

-- the rows so far with those that are left are all
abbrev pub invariant-loop-row : goal.invariant-loop-row
invariant-loop-row l = l.rows ++ rows_of l.row-iterator ≡ rows_of l.self
