use Rattle.std.specs.Prelude.{ℕ, Bool, false, if◌then◌else◌, List, [], ◌∷◌, ◌++◌, length, map, position, Option, Some, None, option_and_then, unwrap_or, All, IsUtf8, ⊤}
use Rattle.std.specs.Option.{option_map_or, option_map}
use Rattle.std.specs.Str.{bytes_eq}
use Rattle.region_sql.specs.declared.region_statements.Goal.{Goal}
use Rattle.region_sql.specs.declared.region_statements.Goal.TheVariants as goals
use Rattle.region_sql.specs.declared.region_statements.Item.{Item}
use Rattle.region_sql.specs.declared.region_statements.Locality.{Locality}
use Rattle.region_sql.specs.declared.region_statements.Locality.TheVariants.{InPrimary}
use Rattle.region_sql.specs.declared.region_statements.RegionStatement.{RegionStatement}
use Rattle.region_sql.specs.declared.region_statements.RegionStatement.TheVariants.{CreateDatabase, Use, SetPrimary, AddRegion, DropRegion, Survive, Placement, CreateTable, SetLocality}
use Rattle.descriptors.specs.declared.database.Database.{Database}
use Rattle.descriptors.specs.declared.table.Table.{Table}
use Rattle.descriptors.specs.Lists.{without, changed}
use Rattle.descriptors.specs.Columns.{columns_of, key_names, places_of, unique_from}
use Rattle.descriptors.specs.Contents.{Contents, is_database, is_table, current_database}
use Rattle.descriptors.specs.Refusals.{of_database, has_regions, regions_made, primary_region}

-- What each accepted statement makes of the catalog. Source: CockroachDB's documentation of multi-region
-- SQL, in this project's profile.

-- The goal is zone survival unless said.
abbrev pub database_made : List ℕ → Option (List ℕ) → List (List ℕ) → Option Goal → Database
database_made name primary regions goal = record {
  name = name;
  regions = regions_made primary regions;
  primary = option_map (λ _. 0) primary;
  goal = unwrap_or goal goals.Zone;
  restricted = false;
}

-- The first region of a database.
abbrev pub with_first_region : List ℕ → Database → Database
with_first_region region d = record d { regions = region ∷ []; primary = Some 0 }

-- Another of its regions as the primary one; the regions keep their order.
abbrev pub with_primary : List ℕ → Database → Database
with_primary region d = record d { primary = position (bytes_eq region) d.regions }

abbrev pub with_region : List ℕ → Database → Database
with_region region d = record d { regions = d.regions ++ region ∷ [] }

-- The primary region stays the same region.
abbrev pub without_region : List ℕ → Database → Database
without_region region d = record d {
  regions = without region d.regions;
  primary = option_and_then (λ primary. position (bytes_eq primary) (without region d.regions)) (primary_region d);
}

abbrev pub with_goal : Goal → Database → Database
with_goal goal d = record d { goal = goal }

abbrev pub with_restricted : Bool → Database → Database
with_restricted restricted d = record d { restricted = restricted }

-- What ALTER DATABASE makes of the database that it names.
abbrev pub altered : RegionStatement → Database → Database
altered (SetPrimary name region) d = if has_regions d then with_primary region d else with_first_region region d
altered (AddRegion name region) d = with_region region d
altered (DropRegion name region) d = without_region region d
altered (Survive name goal) d = with_goal goal d
altered (Placement name restricted) d = with_restricted restricted d
altered _ d = d

-- A table without a locality in a database with regions is REGIONAL BY TABLE IN PRIMARY REGION.
abbrev pub locality_made : Database → Option Locality → Option Locality
locality_made d locality = if has_regions d then Some (unwrap_or locality InPrimary) else None

abbrev pub table_made : Database → List ℕ → List Item → Option Locality → Table
table_made d name items locality = record {
  name = name;
  database = d.name;
  columns = columns_of items;
  key = places_of (columns_of items) (key_names items);
  unique = unique_from 0 items;
  locality = locality_made d locality;
}

abbrev pub with_locality : Locality → Table → Table
with_locality locality t = record t { locality = Some locality }

-- When a database gets its first region, its tables live in it.
abbrev pub homed_in_primary : List ℕ → Table → Table
homed_in_primary name t = if bytes_eq name t.database then with_locality InPrimary t else t

-- The database of a name changed.
abbrev pub with_database : Contents → List ℕ → (Database → Database) → Contents
with_database c name change = record c { databases = changed (is_database name) change c.databases }

abbrev pub with_table : Contents → Table → Contents
with_table c t = record c { tables = c.tables ++ t ∷ [] }

-- The catalog after an accepted statement.
abbrev pub after : Contents → RegionStatement → Contents
after c (CreateDatabase name primary regions goal) = record c { databases = c.databases ++ database_made name primary regions goal ∷ []; current = Some (length c.databases) }
after c (Use name) = record c { current = position (is_database name) c.databases }
after c (SetPrimary name region) =
    if of_database c name has_regions
    then with_database c name (with_primary region)
    else record c { databases = changed (is_database name) (with_first_region region) c.databases; tables = map (homed_in_primary name) c.tables }
after c (AddRegion name region) = with_database c name (with_region region)
after c (DropRegion name region) = with_database c name (without_region region)
after c (Survive name goal) = with_database c name (with_goal goal)
after c (Placement name restricted) = with_database c name (with_restricted restricted)
after c (CreateTable name items locality) = option_map_or (λ d. with_table c (table_made d name items locality)) (current_database c) c
after c (SetLocality name locality) = option_map_or (λ d. record c { tables = changed (is_table d.name name) (with_locality locality) c.tables }) (current_database c) c

-- The names that a statement brings into the catalog are UTF-8.
abbrev pub NewNamesAreUtf8 : RegionStatement → Type 0
NewNamesAreUtf8 (CreateDatabase name primary regions goal) = IsUtf8 name
NewNamesAreUtf8 (CreateTable name items locality) = IsUtf8 name × All (λ c. IsUtf8 c.0) (columns_of items)
NewNamesAreUtf8 _ = ⊤
