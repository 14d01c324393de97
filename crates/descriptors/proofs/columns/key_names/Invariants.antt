use Rattle.std.proofs.Common.{◌≡◌, ◌++◌, drop}
use Rattle.descriptors.specs.Columns.{key_names}
use Rattle.descriptors.proofs.columns.key_names.Given as goal

abbrev pub invariant-loop-item : goal.invariant-loop-item
invariant-loop-item l = l.names ++ key_names (drop l.item-index l.items) ≡ key_names l.items
