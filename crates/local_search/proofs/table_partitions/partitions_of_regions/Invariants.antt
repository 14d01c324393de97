use Rattle.std.proofs.Common.{◌≡◌, ◌++◌, drop}
use Rattle.local_search.specs.Partitions.{numbered_from}
use Rattle.local_search.proofs.table_partitions.partitions_of_regions.Given as goal

abbrev pub invariant-loop-i : goal.invariant-loop-i
invariant-loop-i l = l.partitions ++ numbered_from l.first l.i (drop l.i l.regions) ≡ numbered_from l.first 0 l.regions
