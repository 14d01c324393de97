use Rattle.std.proofs.Common.{◌≡◌, take}
use Rattle.std.specs.Prelude.{filter, not}
use Rattle.sql_eval.specs.Lookups.{is_in_region}
use Rattle.local_search.proofs.table_partitions.the_others.Given as goal

abbrev pub invariant-loop-partition : goal.invariant-loop-partition
invariant-loop-partition l = l.others ≡ filter (λ p. not (is_in_region l.region p)) (take l.partition-index l.partitions)
