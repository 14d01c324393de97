use Rattle.std.proofs.Common.{◌≡◌, filter, take}
use Rattle.sql_eval.specs.RowWords.{matches}
use Rattle.sql_eval.proofs.terms.matched_rows.Given as goal

abbrev pub invariant-loop-row : goal.invariant-loop-row
invariant-loop-row l = l.matched ≡ filter (matches l.t l.terms) (take l.row-index l.rows)
