-- With which key words statements begin.
use Rattle.std.proofs.Common.{◌≡◌, [], ◌∷◌, refl}
use Rattle.region_sql.specs.declared.tokens.Key.TheVariants as key
use Rattle.region_sql.specs.Tokens.{key_number}
use Rattle.region_sql.specs.Reading.{first}
use Rattle.region_sql.specs.Grammar.{insert, select, update, delete, row_statement, new_database, database_regions, altered_database, survive, create, alter, used, region_statement}

pub of_insert : first insert ≡ key_number key.Insert ∷ []
unfolding insert
of_insert = refl

pub of_select : first select ≡ key_number key.Select ∷ []
unfolding select
of_select = refl

pub of_update : first update ≡ key_number key.Update ∷ []
unfolding update
of_update = refl

pub of_delete : first delete ≡ key_number key.Delete ∷ []
unfolding delete
of_delete = refl

pub of_row_statement : first row_statement ≡ key_number key.Insert ∷ key_number key.Select ∷ key_number key.Update ∷ key_number key.Delete ∷ []
unfolding row_statement insert select update delete
of_row_statement = refl

pub of_new_database : first new_database ≡ key_number key.Database ∷ []
unfolding new_database
of_new_database = refl

pub of_database_regions : first database_regions ≡ key_number key.Primary ∷ []
unfolding database_regions
of_database_regions = refl

pub of_altered_database : first altered_database ≡ key_number key.Database ∷ []
unfolding altered_database
of_altered_database = refl

pub of_survive : first survive ≡ key_number key.Survive ∷ []
unfolding survive
of_survive = refl

pub of_create : first create ≡ key_number key.Create ∷ []
unfolding create
of_create = refl

pub of_alter : first alter ≡ key_number key.Alter ∷ []
unfolding alter
of_alter = refl

pub of_region_statement : first region_statement ≡ key_number key.Create ∷ key_number key.Alter ∷ key_number key.Use ∷ []
unfolding region_statement create alter used
of_region_statement = refl
