use Rattle.std.proofs.Common.{◌≡◌, ◌+◌, ◌++◌, take}
use Rattle.zone_report.specs.Ranges.{ranges_in}
use Rattle.zone_report.specs.Report.{lines_from}
use Rattle.zone_report.proofs.report.Lines.put_ranges.Given as goal

abbrev pub invariant-loop-partition : goal.invariant-loop-partition
invariant-loop-partition l =
    (l.out.items ≡ l.fn.out.items ++ lines_from l.self.format l.self.nodes.now l.number (take l.partition (ranges_in l.database l.table)))
    × (l.next ≡ l.number + l.partition)
