use Rattle.std.proofs.Common.{◌≡◌, take}
use Rattle.std.specs.Prelude.{filter}
use Rattle.sql_eval.specs.Lookups.{is_in_region}
use Rattle.local_search.proofs.table_partitions.those_in.Given as goal

abbrev pub invariant-loop-partition : goal.invariant-loop-partition
invariant-loop-partition l = l.chosen ≡ filter (is_in_region l.region) (take l.partition-index l.partitions)
