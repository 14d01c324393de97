use Rattle.std.proofs.Common.{◌≡◌, None, take}
use Rattle.zone_report.specs.Ranges.{ranges_in}
use Rattle.zone_report.specs.Refusals.{first_lack}
use Rattle.zone_report.proofs.lacks.lack_of_table.Given as goal

abbrev pub invariant-loop-partition : goal.invariant-loop-partition
invariant-loop-partition l = first_lack l.nodes (take l.partition (ranges_in l.database l.table)) ≡ None
