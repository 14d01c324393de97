use Rattle.std.proofs.Common.{◌∙◌, ap, sym}
use Rattle.descriptors.specs.Contents.{database_named}
use Rattle.zone_report.proofs.Homes.{has_home}
use Rattle.zone_report.proofs.Placeable.{unchanged_lack}
use Rattle.zone_report.proofs.changes.lack_of_changed.Goals as goal

pub returns-then-is_unchanged : goal.returns-then-is_unchanged
returns-then-is_unchanged c =
    let was = c.is_unchanged.ensures c.if-is_unchanged.true in
    unchanged_lack c.args.nodes.now c.args.old.now c.args.new.now was.0 c.args.table.now c.in-Some.database.now c.requires.placed was.1 was.2 was.3 (ap (λ n. database_named n c.args.new.now.databases) (sym c.as_slice.ensures) ∙ sym c.in-Some.ensures.found)

pub lack_of_table-requires-clause-database : goal.lack_of_table-requires-clause-database
lack_of_table-requires-clause-database c =
    (has_home c.args.nodes.now c.args.new.now c.args.table.now c.in-Some.database.now c.in-Some.ensures.sound c.requires.nodes c.requires.table (ap (λ n. database_named n c.args.new.now.databases) (sym c.as_slice.ensures) ∙ sym c.in-Some.ensures.found)).database

pub lack_of_table-requires-clause-table : goal.lack_of_table-requires-clause-table
lack_of_table-requires-clause-table c =
    (has_home c.args.nodes.now c.args.new.now c.args.table.now c.in-Some.database.now c.in-Some.ensures.sound c.requires.nodes c.requires.table (ap (λ n. database_named n c.args.new.now.databases) (sym c.as_slice.ensures) ∙ sym c.in-Some.ensures.found)).table

pub lack_of_table-requires-clause-nodes : goal.lack_of_table-requires-clause-nodes
lack_of_table-requires-clause-nodes c =
    (has_home c.args.nodes.now c.args.new.now c.args.table.now c.in-Some.database.now c.in-Some.ensures.sound c.requires.nodes c.requires.table (ap (λ n. database_named n c.args.new.now.databases) (sym c.as_slice.ensures) ∙ sym c.in-Some.ensures.found)).nodes_serve
