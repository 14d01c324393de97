use Rattle.std.proofs.Common.{◌≡◌, ◌++◌, drop}
use Rattle.descriptors.specs.Columns.{columns_of}
use Rattle.descriptors.proofs.columns.columns_of.Given as goal

abbrev pub invariant-loop-item : goal.invariant-loop-item
invariant-loop-item l = l.columns ++ columns_of (drop l.item-index l.items) ≡ columns_of l.items
