use Rattle.std.proofs.Common.{◌≡◌, map, drop}
use Rattle.sql_eval.specs.RowWords.{all_values, checked_row, made_row}
use Rattle.sql_eval.proofs.RowSteps.{after}
use Rattle.sql_eval.proofs.rows.made_rows.Given as goal

abbrev pub invariant-loop-row : goal.invariant-loop-row
invariant-loop-row l =
    all_values (map (λ row. checked_row l.t (made_row l.t l.region l.names row)) l.rows)
    ≡ after l.made (all_values (map (λ row. checked_row l.t (made_row l.t l.region l.names row)) (drop l.row-index l.rows)))
