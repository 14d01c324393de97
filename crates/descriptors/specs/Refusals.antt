use Rattle.std.specs.Prelude.{ℕ, Bool, true, false, not, ◌&&◌, ◌||◌, nat_lt, nat_le, if◌then◌else◌, List, [], ◌∷◌, length, Option, Some, None, is_some, is_none, slice_get, option_and_then, unwrap_or}
use Rattle.std.specs.List.{list_any, list_all}
use Rattle.std.specs.Option.{option_map_or}
use Rattle.std.specs.Str.{bytes_eq}
use Rattle.mr_base.specs.declared.states.SqlState.TheVariants.{S3D000, S42P01, S42P04, S42P07}
use Rattle.region_sql.specs.declared.region_statements.Goal.{Goal}
use Rattle.region_sql.specs.declared.region_statements.Goal.TheVariants as goals
use Rattle.region_sql.specs.declared.region_statements.Locality.{Locality}
use Rattle.region_sql.specs.declared.region_statements.Locality.TheVariants.{InPrimary, InRegion, ByRow, Global}
use Rattle.region_sql.specs.declared.region_statements.RegionStatement.{RegionStatement}
use Rattle.region_sql.specs.declared.region_statements.RegionStatement.TheVariants.{CreateDatabase, Use, SetPrimary, AddRegion, DropRegion, Survive, Placement, CreateTable, SetLocality}
use Rattle.descriptors.specs.declared.database.Database.{Database}
use Rattle.descriptors.specs.declared.refusals.CatalogRefusal.{CatalogRefusal}
use Rattle.descriptors.specs.declared.refusals.CatalogRefusal.TheVariants.{State, D}
use Rattle.descriptors.specs.Lists.{has_name, has_twice, without}
use Rattle.descriptors.specs.Columns.{make_no_table}
use Rattle.descriptors.specs.Contents.{Contents, database_named, current_database, current_table}

-- Each refusal of a statement on the catalog, with exactly when it applies. Source: CockroachDB's
-- documentation of multi-region SQL, in this project's profile.

-- A test of the database of a name, and of the current one.
abbrev pub of_database : Contents → List ℕ → (Database → Bool) → Bool
of_database c name test = option_map_or test (database_named name c.databases) false

abbrev pub of_current : Contents → (Database → Bool) → Bool
of_current c test = option_map_or test (current_database c) false

abbrev pub has_regions : Database → Bool
has_regions d = is_some d.primary

abbrev pub survives_region : Goal → Bool
survives_region goals.Zone = false
survives_region goals.Region = true

-- The regions of a new database: the primary region, then the others as listed.
abbrev pub regions_made : Option (List ℕ) → List (List ℕ) → List (List ℕ)
regions_made None regions = []
regions_made (Some primary) regions = primary ∷ without primary regions

-- A locality names no region that isn't among these.
abbrev pub fits : List (List ℕ) → Locality → Bool
fits regions (InRegion region) = has_name regions region
fits regions InPrimary = true
fits regions ByRow = true
fits regions Global = true

-- A database with regions, and a region or a locality that it doesn't have.
abbrev pub misses_region : List ℕ → Database → Bool
misses_region region d = has_regions d && not (has_name d.regions region)

abbrev pub misses_locality : Locality → Database → Bool
misses_locality locality d = has_regions d && not (fits d.regions locality)

abbrev pub lives_in : List ℕ → Option Locality → Bool
lives_in region (Some (InRegion home)) = bytes_eq region home
lives_in region (Some InPrimary) = false
lives_in region (Some ByRow) = false
lives_in region (Some Global) = false
lives_in region None = false

abbrev pub primary_region : Database → Option (List ℕ)
primary_region d = option_and_then (slice_get d.regions) d.primary

-- The database that USE and ALTER DATABASE name.
abbrev pub named_database : RegionStatement → Option (List ℕ)
named_database (Use name) = Some name
named_database (SetPrimary name region) = Some name
named_database (AddRegion name region) = Some name
named_database (DropRegion name region) = Some name
named_database (Survive name goal) = Some name
named_database (Placement name restricted) = Some name
named_database _ = None

-- 3D000: the database isn't there, or there is no current one.
abbrev pub lacks_database : Contents → RegionStatement → Bool
lacks_database c (CreateDatabase name primary regions goal) = false
lacks_database c (Use name) = is_none (database_named name c.databases)
lacks_database c (SetPrimary name region) = is_none (database_named name c.databases)
lacks_database c (AddRegion name region) = is_none (database_named name c.databases)
lacks_database c (DropRegion name region) = is_none (database_named name c.databases)
lacks_database c (Survive name goal) = is_none (database_named name c.databases)
lacks_database c (Placement name restricted) = is_none (database_named name c.databases)
lacks_database c (CreateTable name items locality) = is_none (current_database c)
lacks_database c (SetLocality name locality) = is_none (current_database c)

-- 42P04: the new database is there already.
abbrev pub makes_database_again : Contents → RegionStatement → Bool
makes_database_again c (CreateDatabase name primary regions goal) = is_some (database_named name c.databases)
makes_database_again c _ = false

-- 42P07: the new table is there already.
abbrev pub makes_table_again : Contents → RegionStatement → Bool
makes_table_again c (CreateTable name items locality) = is_some (current_table c name)
makes_table_again c _ = false

-- 42P01: the table isn't there.
abbrev pub lacks_table : Contents → RegionStatement → Bool
lacks_table c (SetLocality name locality) = is_none (current_table c name)
lacks_table c _ = false

-- D1: a region isn't in the cluster.
abbrev pub leaves_cluster : Contents → RegionStatement → Bool
leaves_cluster c (CreateDatabase name primary regions goal) = not (option_map_or (has_name c.regions) primary true && list_all (has_name c.regions) regions)
leaves_cluster c (AddRegion name region) = not (has_name c.regions region)
leaves_cluster c (SetPrimary name region) = of_database c name (λ d. not (has_regions d) && not (has_name c.regions region))
leaves_cluster c _ = false

-- D2: a region is named twice, or is in the database already.
abbrev pub adds_region_again : Contents → RegionStatement → Bool
adds_region_again c (CreateDatabase name primary regions goal) = has_twice regions
adds_region_again c (AddRegion name region) = of_database c name (λ d. has_name d.regions region)
adds_region_again c _ = false

-- D3: a region isn't in the database, which has regions.
abbrev pub leaves_database : Contents → RegionStatement → Bool
leaves_database c (SetPrimary name region) = of_database c name (misses_region region)
leaves_database c (DropRegion name region) = of_database c name (misses_region region)
leaves_database c (CreateTable name items locality) = of_current c (λ d. option_map_or (λ l. misses_locality l d) locality false)
leaves_database c (SetLocality name locality) = of_current c (misses_locality locality)
leaves_database c _ = false

-- D4: the database has no primary region.
abbrev pub lacks_primary : Contents → RegionStatement → Bool
lacks_primary c (AddRegion name region) = of_database c name (λ d. not (has_regions d))
lacks_primary c (DropRegion name region) = of_database c name (λ d. not (has_regions d))
lacks_primary c (Survive name goal) = of_database c name (λ d. not (has_regions d))
lacks_primary c (Placement name restricted) = of_database c name (λ d. not (has_regions d))
lacks_primary c _ = false

-- D5: a database that is to survive the loss of a region would have fewer than three regions.
abbrev pub has_too_few_regions : Contents → RegionStatement → Bool
has_too_few_regions c (CreateDatabase name primary regions goal) = survives_region (unwrap_or goal goals.Zone) && nat_lt (length (regions_made primary regions)) 3
has_too_few_regions c (DropRegion name region) = of_database c name (λ d. survives_region d.goal && nat_lt (length (without region d.regions)) 3)
has_too_few_regions c (Survive name goal) = of_database c name (λ d. survives_region goal && nat_lt (length d.regions) 3)
has_too_few_regions c _ = false

-- D6: the primary region would be dropped.
abbrev pub drops_primary : Contents → RegionStatement → Bool
drops_primary c (DropRegion name region) = of_database c name (λ d. option_map_or (bytes_eq region) (primary_region d) false)
drops_primary c _ = false

-- D7: a locality in a database without regions.
abbrev pub needs_no_locality : Contents → RegionStatement → Bool
needs_no_locality c (CreateTable name items locality) = of_current c (λ d. not (has_regions d) && is_some locality)
needs_no_locality c (SetLocality name locality) = of_current c (λ d. not (has_regions d))
needs_no_locality c _ = false

-- D8: the columns make no table, or there would be too many databases or tables.
abbrev pub makes_no_table : Contents → RegionStatement → Bool
makes_no_table c (CreateDatabase name primary regions goal) = nat_le 16 (length c.databases)
makes_no_table c (CreateTable name items locality) = nat_le 64 (length c.tables) || make_no_table items
makes_no_table c _ = false

-- D9: a table lives in the region that would be dropped.
abbrev pub drops_home : Contents → RegionStatement → Bool
drops_home c (DropRegion name region) = list_any (λ t. bytes_eq name t.database && lives_in region t.locality) c.tables
drops_home c _ = false

-- D11: a restricted database would have to survive the loss of a region.
abbrev pub restricts_survival : Contents → RegionStatement → Bool
restricts_survival c (Survive name goal) = of_database c name (λ d. survives_region goal && d.restricted)
restricts_survival c (Placement name restricted) = of_database c name (λ d. restricted && survives_region d.goal)
restricts_survival c _ = false

-- The first that applies.
abbrev pub first_of : List (Bool × CatalogRefusal) → Option CatalogRefusal
first_of [] = None
first_of (row ∷ rows) = if row.0 then Some row.1 else first_of rows

-- The table of refusals, first things first.
abbrev pub rows_of : Contents → RegionStatement → List (Bool × CatalogRefusal)
rows_of c s =
    (lacks_database c s, State S3D000)
    ∷ (makes_database_again c s, State S42P04)
    ∷ (makes_table_again c s, State S42P07)
    ∷ (lacks_table c s, State S42P01)
    ∷ (leaves_cluster c s, D 1)
    ∷ (adds_region_again c s, D 2)
    ∷ (leaves_database c s, D 3)
    ∷ (lacks_primary c s, D 4)
    ∷ (has_too_few_regions c s, D 5)
    ∷ (drops_primary c s, D 6)
    ∷ (needs_no_locality c s, D 7)
    ∷ (makes_no_table c s, D 8)
    ∷ (drops_home c s, D 9)
    ∷ (restricts_survival c s, D 11)
    ∷ []

-- Why a statement is refused, if it is.
abbrev pub refusal_of : Contents → RegionStatement → Option CatalogRefusal
refusal_of c s = first_of (rows_of c s)
