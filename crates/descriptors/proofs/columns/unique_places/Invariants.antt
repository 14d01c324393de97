use Rattle.std.proofs.Common.{◌≡◌, ◌≤◌, ◌++◌, drop}
use Rattle.descriptors.specs.Columns.{unique_from}
use Rattle.descriptors.proofs.columns.unique_places.Given as goal

abbrev pub invariant-loop-item : goal.invariant-loop-item
invariant-loop-item l = (l.place ≤ l.item-index) × (l.places ++ unique_from l.place (drop l.item-index l.items) ≡ unique_from 0 l.items)
