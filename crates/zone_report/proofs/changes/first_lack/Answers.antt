use Rattle.std.proofs.Common.{◌∙◌, ap, refl, sym}
use Rattle.std.specs.List.{flat_map}
use Rattle.zone_report.specs.Ranges.{ranges_of_table}
use Rattle.zone_report.specs.Refusals.{first_lack}
use Rattle.zone_report.proofs.Placeable.{all_tables_placed, lack_at_table, tables_placed_more}
use Rattle.zone_report.proofs.changes.first_lack.Goals as goal

pub loop-place-init : goal.loop-place-init
loop-place-init c = refl

pub returns-then-is_some : goal.returns-then-is_some
returns-then-is_some c =
    lack_at_table c.args.nodes.now (ranges_of_table c.args.new.now.databases) c.tables-table-items.result.now c.loop-place.place c.table-item.result c.in_ok-lack.lack (sym c.if-is_some.ensures) c.loop-place-test.true c.table-item.is c.loop-place.invariant c.in_ok-lack.ensures
    ∙ ap (λ ts. first_lack c.args.nodes.now (flat_map (ranges_of_table c.args.new.now.databases) ts)) c.tables-table-items.ensures.tables

pub loop-place-preserved : goal.loop-place-preserved
loop-place-preserved c =
    tables_placed_more c.args.nodes.now (ranges_of_table c.args.new.now.databases) c.tables-table-items.result.now c.loop-place.place c.table-item.result c.in_ok-lack.lack (sym c.if-is_some.ensures) c.loop-place-test.true c.table-item.is c.loop-place.invariant c.in_ok-lack.ensures

pub returns : goal.returns
returns c =
    all_tables_placed c.args.nodes.now (ranges_of_table c.args.new.now.databases) c.tables-table-items.result.now c.loop-place.place c.loop-place-test.false c.loop-place.invariant
    ∙ ap (λ ts. first_lack c.args.nodes.now (flat_map (ranges_of_table c.args.new.now.databases) ts)) c.tables-table-items.ensures.tables
