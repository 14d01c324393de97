use Rattle.std.proofs.Common.{◌≡◌, ◌≤◌, ◌+◌, drop}
use Rattle.descriptors.specs.Columns.{keys_declared}
use Rattle.descriptors.proofs.columns.keys_declared.Given as goal

abbrev pub invariant-loop-item : goal.invariant-loop-item
invariant-loop-item l = (l.keys ≤ l.item-index) × (l.keys + keys_declared (drop l.item-index l.items) ≡ keys_declared l.items)
