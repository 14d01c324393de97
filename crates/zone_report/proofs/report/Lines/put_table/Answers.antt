use Rattle.std.proofs.Common.{◌∙◌, ap, sym}
use Rattle.descriptors.specs.Contents.{database_named}
use Rattle.zone_report.proofs.Homes.{has_home}
use Rattle.zone_report.proofs.report.Lines.put_table.Goals as goal

pub put_ranges-requires-clause-database : goal.put_ranges-requires-clause-database
put_ranges-requires-clause-database c =
    (has_home c.args.self.now.nodes.now c.args.catalog.now c.args.table.now c.in-Some.database.now c.in-Some.ensures.sound c.requires.nodes c.requires.table (ap (λ n. database_named n c.args.catalog.now.databases) (sym c.as_slice.ensures) ∙ sym c.in-Some.ensures.found)).database

pub put_ranges-requires-clause-table : goal.put_ranges-requires-clause-table
put_ranges-requires-clause-table c =
    (has_home c.args.self.now.nodes.now c.args.catalog.now c.args.table.now c.in-Some.database.now c.in-Some.ensures.sound c.requires.nodes c.requires.table (ap (λ n. database_named n c.args.catalog.now.databases) (sym c.as_slice.ensures) ∙ sym c.in-Some.ensures.found)).table

pub put_ranges-requires-clause-nodes : goal.put_ranges-requires-clause-nodes
put_ranges-requires-clause-nodes c =
    (has_home c.args.self.now.nodes.now c.args.catalog.now c.args.table.now c.in-Some.database.now c.in-Some.ensures.sound c.requires.nodes c.requires.table (ap (λ n. database_named n c.args.catalog.now.databases) (sym c.as_slice.ensures) ∙ sym c.in-Some.ensures.found)).nodes_serve
