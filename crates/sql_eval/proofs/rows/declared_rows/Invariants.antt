use Rattle.std.proofs.Common.{◌≡◌, length, map, take}
use Rattle.sql_eval.proofs.rows.declared_rows.Given as goal

abbrev pub invariant-loop-row : goal.invariant-loop-row
invariant-loop-row l = l.shown ≡ map (take (length l.t.columns)) (take l.row-index l.rows)
