use Rattle.std.proofs.Common.{◌≡◌, ◌++◌, map, take}
use Rattle.row_locality.specs.Pairs.{key_value}
use Rattle.planner.specs.RowWrites.{write_by}
use Rattle.planner.proofs.row_writes.push_pairs.Given as goal

abbrev pub invariant-loop-pair : goal.invariant-loop-pair
invariant-loop-pair l = l.writes ≡ l.fn.writes ++ map (write_by l.adds l.range) (map key_value (take l.pair-index l.pairs))
