use Rattle.std.proofs.Common.{◌≡◌, true, false, sym, ◌∙◌}
use Rattle.descriptors.specs.Refusals.{of_database, has_regions}
use Rattle.descriptors.proofs.Edits.{another_primary, first_primary, on_ok}
use Rattle.descriptors.proofs.store.Store.change_primary.Goals as goal

pub returns-then-has_regions_in-clause-ok : goal.returns-then-has_regions_in-clause-ok
returns-then-has_regions_in-clause-ok c =
    let has : of_database c.args.self.now c.args.name.now has_regions ≡ true = sym c.has_regions_in.ensures ∙ c.if-has_regions_in.true in
    on_ok c.alter_database.result c.alter_database.new.self _ _ c.alter_database.ensures.ok (another_primary c.args.self.now c.args.s.now c.args.name.now c.args.region.now c.requires has)

pub returns-clause-ok : goal.returns-clause-ok
returns-clause-ok c =
    let has_not : of_database c.args.self.now c.args.name.now has_regions ≡ false = sym c.has_regions_in.ensures ∙ c.if-has_regions_in.false in
    c.home_tables.ensures ∙ first_primary c.args.self.now c.alter_database-2.new.self c.args.s.now c.args.name.now c.args.region.now c.requires has_not c.in_ok-alter_database.ensures.ok
