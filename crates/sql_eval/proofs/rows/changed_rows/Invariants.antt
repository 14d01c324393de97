use Rattle.std.proofs.Common.{◌≡◌, map, drop}
use Rattle.sql_eval.specs.RowWords.{all_values, checked_row, changed_row}
use Rattle.sql_eval.proofs.RowSteps.{after}
use Rattle.sql_eval.proofs.rows.changed_rows.Given as goal

abbrev pub invariant-loop-old : goal.invariant-loop-old
invariant-loop-old l =
    all_values (map (λ old. checked_row l.t (changed_row l.t l.targets old)) l.olds)
    ≡ after l.changed (all_values (map (λ old. checked_row l.t (changed_row l.t l.targets old)) (drop l.old-index l.olds)))
