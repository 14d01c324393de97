use Rattle.std.proofs.Common.{◌≡◌, take}
use Rattle.descriptors.specs.Columns.{places_of}
use Rattle.descriptors.proofs.columns.places_of.Given as goal

abbrev pub invariant-loop-name : goal.invariant-loop-name
invariant-loop-name l = l.places ≡ places_of l.columns (take l.name-index l.names)
