use Rattle.std.proofs.Common.{◌≡◌, ◌++◌, take}
use Rattle.row_locality.specs.Plain.{Layout}
use Rattle.sql_eval.specs.Tables.{named}
use Rattle.planner.specs.RowWrites.{ArePartitionsOf, writes_of_rows}
use Rattle.planner.proofs.row_writes.push_rows.Given as goal

abbrev pub invariant-loop-row : goal.invariant-loop-row
invariant-loop-row l =
    (layout : Layout) → ArePartitionsOf layout (named l.n) l.partitions → l.writes ≡ l.fn.writes ++ writes_of_rows l.adds layout (named l.n) (take l.row-index l.rows)
