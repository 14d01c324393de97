use Rattle.std.proofs.Common.{◌≡◌, drop}
use Rattle.local_search.proofs.RowValues.{same}
use Rattle.local_search.proofs.row_values.are_same.Given as goal

abbrev pub invariant-loop-i : goal.invariant-loop-i
invariant-loop-i l = same l.before l.after ≡ same (drop l.i l.before) (drop l.i l.after)
