use Rattle.std.proofs.Common.{◌≡◌, ◌+◌, ◌*◌, ◌≤◌, length, take}
use Rattle.std.specs.List.{flat_map}
use Rattle.zone_report.specs.Ranges.{ranges_of_table}
use Rattle.zone_report.specs.Report.{lines_from}
use Rattle.zone_report.proofs.report.report_of.Given as goal

abbrev pub invariant-loop-table : goal.invariant-loop-table
invariant-loop-table l =
    (l.out.items ≡ lines_from l.fn.format l.fn.nodes 1 (flat_map (ranges_of_table l.catalog.databases) (take l.table-index l.table-items)))
    × (l.number ≡ 1 + length (flat_map (ranges_of_table l.catalog.databases) (take l.table-index l.table-items)))
    × (l.number ≤ 1 + 16 * l.table-index)
