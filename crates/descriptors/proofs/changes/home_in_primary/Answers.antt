use Rattle.std.proofs.Common.{◌≡◌, ◌∙◌, ap, set, arith, sym}
use Rattle.std.proofs.lemmas.List.Edits.{map_over_more}
use Rattle.descriptors.specs.Changes.{homed_in_primary}
use Rattle.descriptors.proofs.changes.home_in_primary.Goals as goal

pub loop-table-preserved : goal.loop-table-preserved
loop-table-preserved c =
    let now : c.home.new.table ≡ homed_in_primary c.args.name.now c.table-item.result = c.home.ensures ∙ ap (homed_in_primary c.args.name.now) (sym c.table-item.is) in
    ap (set c.loop-table.tables c.loop-table.table-index) now
    ∙ map_over_more (homed_in_primary c.args.name.now) c.args.tables.now c.loop-table.tables c.loop-table.table-index c.table-item.result (omega arith) c.loop-table.invariant c.table-item.is
