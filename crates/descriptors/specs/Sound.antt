use Rattle.std.specs.Prelude.{◌≡◌, ◌≢◌, ℕ, ◌<◌, ◌≤◌, List, [], length, map, All, AllPairs, Any, IfSome, IsUtf8, Option, Some, None, true, IsTrue, codes}
use Rattle.region_sql.specs.declared.region_statements.Goal.TheVariants as goals
use Rattle.region_sql.specs.declared.region_statements.Locality.{Locality}
use Rattle.region_sql.specs.declared.region_statements.Locality.TheVariants as localities
use Rattle.descriptors.specs.declared.database.Database.{Database}
use Rattle.descriptors.specs.declared.table.Table.{Table}
use Rattle.descriptors.specs.Contents.{Contents, database_named}
use Rattle.descriptors.specs.Lists.{has_name}

-- No two of these are equal.
abbrev pub AreDistinct : {A : Type 0} → List A → Type 0
AreDistinct xs = AllPairs (λ x y. x ≢ y) xs

-- The primary region is a place among the regions, and there is none only where there are no regions.
abbrev pub IsPrimaryOf : List (List ℕ) → Option ℕ → Type 0
IsPrimaryOf regions None = regions ≡ []
IsPrimaryOf regions (Some place) = place < length regions

-- A database as the catalog keeps it. (This project's profile.)
pub record IsSoundDatabase (d : Database) : Type 0 where
  pub name : IsUtf8 d.name
  pub regions : All IsUtf8 d.regions
  pub few : length d.regions ≤ 16
  pub distinct : AreDistinct d.regions
  pub primary : IsPrimaryOf d.regions d.primary
  pub enough : d.goal ≡ goals.Region → 3 ≤ length d.regions
  pub restricted : d.restricted ≡ true → (d.regions ≢ []) × (d.goal ≡ goals.Zone)

-- A table as the catalog keeps it. (This project's profile.)
pub record IsSoundTable (t : Table) : Type 0 where
  pub name : IsUtf8 t.name
  pub columns : All (λ c. IsUtf8 c.0) t.columns
  pub some : 1 ≤ length t.columns
  pub few : length t.columns ≤ 16
  pub named : AreDistinct (map (λ c. c.0) t.columns)
  pub not_hidden : All (λ c. c.0 ≢ codes "crdb_region") t.columns
  pub key : 1 ≤ length t.key
  pub key_distinct : AreDistinct t.key
  pub key_places : All (λ k. k < length t.columns) t.key
  pub unique_rises : AllPairs (λ j k. j < k) t.unique
  pub unique_places : All (λ k. k < length t.columns) t.unique

-- A locality that a table of a database with these regions may have.
abbrev pub FitsRegions : List (List ℕ) → Option Locality → Type 0
FitsRegions regions None = regions ≡ []
FitsRegions regions (Some (localities.InRegion region)) = Any (λ r. r ≡ region) regions
FitsRegions regions (Some localities.InPrimary) = regions ≢ []
FitsRegions regions (Some localities.ByRow) = regions ≢ []
FitsRegions regions (Some localities.Global) = regions ≢ []

-- A table as the catalog keeps it in its database.
pub record IsSoundIn (d : Database) (t : Table) : Type 0 where
  pub table : IsSoundTable t
  pub database : t.database ≡ d.name
  pub locality : FitsRegions d.regions t.locality

-- The regions of a cluster.
pub record IsCluster (regions : List (List ℕ)) : Type 0 where
  pub few : length regions ≤ 16
  pub distinct : AreDistinct regions
  pub names : All IsUtf8 regions

-- A table as the catalog keeps it among these databases: its database is there, and it is sound in it.
abbrev pub IsSoundAmong : List Database → Table → Type 0
IsSoundAmong databases t = (d : Database) × (database_named t.database databases ≡ Some d) × IsSoundIn d t

-- Tables are told apart by their databases and names.
abbrev pub full_name : Table → List ℕ × List ℕ
full_name t = (t.database, t.name)

-- A catalog holds no more databases and tables than may be, no two tables of one database have the same
-- name, and the current database is there. (The numbers are this project's profile.)
pub record IsWithinLimits (c : Contents) : Type 0 where
  pub databases : length c.databases ≤ 16
  pub tables : length c.tables ≤ 64
  pub named_apart : AreDistinct (map full_name c.tables)
  pub current : IfSome c.current (λ place. place < length c.databases)

-- What every catalog is.
pub record IsSoundCatalog (c : Contents) : Type 0 where
  pub cluster : IsCluster c.regions
  pub databases : All IsSoundDatabase c.databases
  pub in_cluster : All (λ d. All (λ r. IsTrue (has_name c.regions r)) d.regions) c.databases
  pub names : AllPairs (λ d e. d.name ≢ e.name) c.databases
  pub tables : All (IsSoundAmong c.databases) c.tables
  pub limits : IsWithinLimits c
