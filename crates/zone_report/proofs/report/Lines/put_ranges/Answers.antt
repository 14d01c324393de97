use Rattle.std.proofs.Common.{◌∙◌, ◌++◌, ap, sym, arith}
use Rattle.zone_report.proofs.Lines.{all_lines, more_lines, no_lines, partitions_few}
use Rattle.zone_report.proofs.Placeable.{none_lacks, how_many}
use Rattle.zone_report.proofs.report.Lines.put_ranges.Goals as goal

pub loop-partition-init : goal.loop-partition-init
loop-partition-init c = (sym (no_lines c.args.out.now.items), omega arith)

pub put_range-requires-clause-placed : goal.put_range-requires-clause-placed
put_range-requires-clause-placed c =
    none_lacks c.args.self.now.nodes.now c.args.database.now c.args.table.now c.loop-partition.partition c.requires.placed c.loop-partition-test.true c.partitions-partition-end.ensures

pub overflow_add-next : goal.overflow_add-next
overflow_add-next c =
    let few = partitions_few c.args.database.now c.args.table.now.locality c.requires.database in
    omega (arith, c.requires.few, c.loop-partition.invariant.1, c.loop-partition-test.true, c.partitions-partition-end.ensures, few)

pub loop-partition-preserved : goal.loop-partition-preserved
loop-partition-preserved c = (
  more_lines c.args.self.now.format c.args.self.now.nodes.now c.args.number c.args.database.now c.args.table.now c.loop-partition.partition c.loop-partition.next c.args.out.now.items c.loop-partition.out.items c.put_range.new.out.items c.loop-partition-test.true c.partitions-partition-end.ensures c.loop-partition.invariant.1 c.in_ok-put_range.ensures c.loop-partition.invariant.0,
  omega (arith, c.loop-partition.invariant.1),
)

pub returns-clause-lines : goal.returns-clause-lines
returns-clause-lines c = c.loop-partition.invariant.0 ∙ ap (λ l. c.args.out.now.items ++ l) (all_lines c.args.self.now.format c.args.self.now.nodes.now c.args.number c.args.database.now c.args.table.now c.loop-partition.partition c.loop-partition-test.false c.partitions-partition-end.ensures)

pub returns-clause-number : goal.returns-clause-number
returns-clause-number c =
    omega (arith, c.loop-partition.invariant.1, c.loop-partition-test.false, c.loop-partition.auto.partition-end, c.partitions-partition-end.ensures, how_many c.args.database.now c.args.table.now)

pub returns-clause-few : goal.returns-clause-few
returns-clause-few c =
    let few = partitions_few c.args.database.now c.args.table.now.locality c.requires.database in
    omega (arith, c.loop-partition.invariant.1, c.loop-partition.auto.partition-end, c.partitions-partition-end.ensures, few)
