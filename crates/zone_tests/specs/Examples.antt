use Rattle.std.specs.Prelude.{◌≡◌, ℕ, List, [], ◌∷◌, Option, Some, None, true, codes}
use Rattle.region_sql.specs.declared.region_statements.ColumnType.TheVariants.{Int}
use Rattle.region_sql.specs.declared.region_statements.Goal.TheVariants.{Zone}
use Rattle.region_sql.specs.declared.region_statements.Locality.{Locality}
use Rattle.region_sql.specs.declared.region_statements.Locality.TheVariants.{InPrimary, InRegion, ByRow, Global}
use Rattle.descriptors.specs.declared.database.Database.{Database}
use Rattle.descriptors.specs.declared.table.Table.{Table}

-- What the tests of configurations speak of: a database of three regions, and a table of one column.

abbrev pub example_regions : List (List ℕ)
example_regions = codes "us-east" ∷ codes "us-west" ∷ codes "eu-west" ∷ []

pub record IsExample (d : Database) : Type 0 where
  pub name : d.name ≡ codes "d"
  pub regions : d.regions ≡ example_regions
  pub primary : d.primary ≡ Some 0
  pub restricted : d.restricted ≡ true → d.goal ≡ Zone

abbrev pub IsExampleLocality : Locality → Type 0
IsExampleLocality InPrimary = Unit {0}
IsExampleLocality Global = Unit {0}
IsExampleLocality (InRegion region) = ⊥
IsExampleLocality ByRow = ⊥

abbrev pub HasExampleLocality : Option Locality → Type 0
HasExampleLocality None = ⊥
HasExampleLocality (Some locality) = IsExampleLocality locality

pub record IsExampleTable (t : Table) : Type 0 where
  pub name : t.name ≡ codes "t"
  pub database : t.database ≡ codes "d"
  pub columns : t.columns ≡ (codes "id", Int) ∷ []
  pub key : t.key ≡ 0 ∷ []
  pub unique : t.unique ≡ []
  pub locality : HasExampleLocality t.locality
