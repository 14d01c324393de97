use Rattle.std.proofs.Common.{◌≡◌, ap, sym, ◌∙◌, subst, false, All}
use Rattle.std.specs.Str.{bytes_eq}
use Rattle.region_sql.specs.declared.region_statements.RegionStatement.TheVariants.{CreateDatabase}
use Rattle.descriptors.specs.declared.database.Database.{Database}
use Rattle.descriptors.specs.Contents.{database_named}
use Rattle.descriptors.specs.Refusals.{refusal_of, rows_of}
use Rattle.descriptors.proofs.Creations.{no_tables_of}
use Rattle.descriptors.proofs.Found.{none_applies, nowhere}
use Rattle.descriptors.proofs.store.Store.change.Goals as goal

pub add_database-requires-clause-alone : goal.add_database-requires-clause-alone
add_database-requires-clause-alone c =
    let made = CreateDatabase c.in-CreateDatabase.name c.in-CreateDatabase.primary c.in-CreateDatabase.regions c.in-CreateDatabase.goal in
    let passed = none_applies (rows_of c.args.self.now made) (ap (refusal_of c.args.self.now) (sym c.in-CreateDatabase.is) ∙ c.requires.accepted) in
    subst (λ n. All (λ t. bytes_eq n t.database ≡ false) c.args.self.now.tables) (sym (ap (λ (d : Database). d.name) c.in_ok-made-in-CreateDatabase.ensures ∙ c.as_slice-name.ensures))
    (no_tables_of c.args.self.now c.in-CreateDatabase.name c.requires.sound (nowhere (database_named c.in-CreateDatabase.name c.args.self.now.databases) passed.1.0))
