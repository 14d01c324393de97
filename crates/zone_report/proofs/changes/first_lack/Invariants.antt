use Rattle.std.proofs.Common.{◌≡◌, None, take}
use Rattle.std.specs.List.{flat_map}
use Rattle.zone_report.specs.Ranges.{ranges_of_table}
use Rattle.zone_report.specs.Refusals.{first_lack}
use Rattle.zone_report.proofs.changes.first_lack.Given as goal

abbrev pub invariant-loop-place : goal.invariant-loop-place
invariant-loop-place l = first_lack l.nodes (flat_map (ranges_of_table l.new.databases) (take l.place l.table-items)) ≡ None
