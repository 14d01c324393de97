use Rattle.std.proofs.Common.{◌≡◌, ◌++◌, map, take}
use Rattle.local_search.specs.LookupOrder.{lookup_in}
use Rattle.local_search.proofs.lookups.push_lookups.Given as goal

abbrev pub invariant-loop-partition : goal.invariant-loop-partition
invariant-loop-partition l = l.lookups ≡ l.fn.lookups ++ map (lookup_in l.index l.span) (take l.partition-index l.partitions)
