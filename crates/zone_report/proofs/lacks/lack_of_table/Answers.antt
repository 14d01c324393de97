use Rattle.std.proofs.Common.{refl, sym}
use Rattle.zone_report.proofs.Placeable.{all_placed, lack_at_place, placed_more}
use Rattle.zone_report.proofs.lacks.lack_of_table.Goals as goal

pub loop-partition-init : goal.loop-partition-init
loop-partition-init c = refl

pub returns-then-is_some : goal.returns-then-is_some
returns-then-is_some c =
    lack_at_place c.args.nodes.now c.args.database.now c.args.table.now c.loop-partition.partition c.in_ok-lack.lack (sym c.if-is_some.ensures) c.loop-partition-test.true c.partitions-partition-end.ensures c.loop-partition.invariant c.in_ok-lack.ensures

pub loop-partition-preserved : goal.loop-partition-preserved
loop-partition-preserved c =
    placed_more c.args.nodes.now c.args.database.now c.args.table.now c.loop-partition.partition c.in_ok-lack.lack (sym c.if-is_some.ensures) c.loop-partition-test.true c.partitions-partition-end.ensures c.loop-partition.invariant c.in_ok-lack.ensures

pub returns : goal.returns
returns c = all_placed c.args.nodes.now c.args.database.now c.args.table.now c.loop-partition.partition c.partitions-partition-end.result c.loop-partition-test.false c.partitions-partition-end.ensures c.loop-partition.invariant
