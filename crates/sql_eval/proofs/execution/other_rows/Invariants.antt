use Rattle.std.proofs.Common.{◌≡◌, filter, not, take}
use Rattle.sql_eval.specs.RowWords.{matches}
use Rattle.sql_eval.proofs.execution.other_rows.Given as goal

abbrev pub invariant-loop-row : goal.invariant-loop-row
invariant-loop-row l = l.others ≡ filter (λ row. not (matches l.t l.terms row)) (take l.row-index l.rows)
