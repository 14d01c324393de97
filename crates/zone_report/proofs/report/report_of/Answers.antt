use Rattle.std.proofs.Common.{Contains, arith, subst, sym}
use Rattle.zone_report.specs.Ranges.{ranges_of_table}
use Rattle.zone_report.proofs.Lines.{table_lines, table_numbers}
use Rattle.zone_report.proofs.Placeable.{table_lacks_none}
use Rattle.zone_report.proofs.report.report_of.Goals as goal

pub put_table-requires-clause-placed : goal.put_table-requires-clause-placed
put_table-requires-clause-placed c =
    table_lacks_none c.args.nodes.now (ranges_of_table c.args.catalog.now.databases) c.args.catalog.now.tables c.requires.placed c.table-item.result
    (subst (λ ts. Contains ts c.table-item.result) c.tables-table-items.ensures.tables (c.loop-table.table-index, c.loop-table-test.true, sym c.table-item.is))

pub loop-table-preserved : goal.loop-table-preserved
loop-table-preserved c = (
  table_lines c.args.format c.args.nodes.now (ranges_of_table c.args.catalog.now.databases) c.tables-table-items.result.now c.loop-table.table-index c.table-item.result c.loop-table.number c.loop-table.out.items c.put_table.new.out.items
      c.loop-table-test.true c.table-item.is c.loop-table.invariant.1 c.in_ok-number.ensures.lines c.loop-table.invariant.0,
  table_numbers (ranges_of_table c.args.catalog.now.databases) c.tables-table-items.result.now c.loop-table.table-index c.table-item.result c.loop-table.number c.in_ok-number.number
      c.loop-table-test.true c.table-item.is c.loop-table.invariant.1 c.in_ok-number.ensures.number,
  omega (arith, c.loop-table.invariant.2, c.in_ok-number.ensures.few),
)
