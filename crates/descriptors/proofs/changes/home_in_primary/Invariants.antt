use Rattle.std.proofs.Common.{◌≡◌, ◌++◌, map, take, drop}
use Rattle.descriptors.specs.Changes.{homed_in_primary}
use Rattle.descriptors.proofs.changes.home_in_primary.Given as goal

abbrev pub invariant-loop-table : goal.invariant-loop-table
invariant-loop-table l = l.tables ≡ map (homed_in_primary l.name) (take l.table-index l.initial.tables) ++ drop l.table-index l.initial.tables
