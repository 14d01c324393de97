use Rattle.std.specs.Prelude.{ℕ, List, map, Option, Some, None, option_and_then, slice_get}
use Rattle.std.specs.List.{flat_map, range_with_len}
use Rattle.std.specs.Option.{option_map_or}
use Rattle.region_sql.specs.declared.region_statements.Locality.{Locality}
use Rattle.region_sql.specs.declared.region_statements.Locality.TheVariants as localities
use Rattle.descriptors.specs.declared.database.Database.{Database}
use Rattle.descriptors.specs.declared.table.Table.{Table}
use Rattle.descriptors.specs.Contents.{Contents, database_named}
use Rattle.zone_compile.specs.declared.config.ZoneConfig.{ZoneConfig}
use Rattle.zone_compile.specs.Configuration.{configuration}
use Rattle.std.specs.Prelude.{[], length}

-- A range: the name of its table, the region of its partition, and its configuration.
pub record Range : Type 0 where
  pub table : List ℕ
  pub partition : Option (List ℕ)
  pub config : ZoneConfig

-- A REGIONAL BY ROW table has a range for each region, any other table one. (CockroachDB's documentation
-- of table localities.)
abbrev pub partitions : Database → Option Locality → ℕ
partitions d (Some localities.ByRow) = length d.regions
partitions d (Some localities.Global) = 1
partitions d (Some (localities.InRegion region)) = 1
partitions d (Some localities.InPrimary) = 1
partitions d None = 1

-- The place of the region of the partition at a place, if it has a region.
abbrev pub place_of : Option Locality → ℕ → Option ℕ
place_of (Some localities.ByRow) k = Some k
place_of (Some localities.Global) k = None
place_of (Some (localities.InRegion region)) k = None
place_of (Some localities.InPrimary) k = None
place_of None k = None

abbrev pub range_at : Database → Table → ℕ → Range
range_at d t k = record {
  table = t.name;
  partition = option_and_then (slice_get d.regions) (place_of t.locality k);
  config = configuration d t.locality (place_of t.locality k);
}

-- The ranges of a table of a database, in catalog order of the regions.
abbrev pub ranges_in : Database → Table → List Range
ranges_in d t = map (range_at d t) (range_with_len 0 (partitions d t.locality))

abbrev pub ranges_of_table : List Database → Table → List Range
ranges_of_table databases t = option_map_or (λ d. ranges_in d t) (database_named t.database databases) []

-- The ranges of a catalog, in table and then region order.
abbrev pub ranges : Contents → List Range
ranges c = flat_map (ranges_of_table c.databases) c.tables
