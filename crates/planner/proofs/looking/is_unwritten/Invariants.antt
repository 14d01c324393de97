use Rattle.std.proofs.Common.{◌≡◌, drop}
use Rattle.std.specs.FinMap.Entries.{find}
use Rattle.row_locality.specs.Pairs.{bytes_cmp}
use Rattle.planner.proofs.looking.is_unwritten.Given as goal

abbrev pub invariant-loop-other : goal.invariant-loop-other
invariant-loop-other l = find bytes_cmp l.key l.written ≡ find bytes_cmp l.key (drop l.other-index l.written)
