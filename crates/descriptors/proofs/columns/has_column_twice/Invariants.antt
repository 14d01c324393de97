use Rattle.std.proofs.Common.{◌≡◌, drop}
use Rattle.descriptors.specs.Columns.{has_column_twice}
use Rattle.descriptors.proofs.columns.has_column_twice.Given as goal

abbrev pub invariant-loop-i : goal.invariant-loop-i
invariant-loop-i l = has_column_twice l.columns ≡ has_column_twice (drop l.i l.columns)
