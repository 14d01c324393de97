-- Plain databases, the ranges in which their rows live, and what each range holds. Source: CockroachDB's
-- documentation of table localities (a REGIONAL BY ROW table has a partition in each region of its database,
-- any other table one range), in this project's profile.
use Rattle.std.specs.Prelude.{◌≡◌, ◌≢◌, ℕ, ◌+◌, ◌<◌, ◌≤◌, ◌^◌, ◌==◌, if◌then◌else◌, IsTrue, List, [], ◌∷◌, length, map, flat_map, slice_get, position, All, AllPairs, Contains, Option, Some, None, option_and_then, unwrap_or, IfSome}
use Rattle.std.specs.List.{enumerate_from}
use Rattle.std.specs.Option.{option_map_or}
use Rattle.std.specs.declared.cmp.Ordering.TheVariants.{Less}
use Rattle.std.specs.Str.{bytes_eq}
use Rattle.mr_base.specs.declared.ids.RangeId.{RangeId}
use Rattle.mr_base.specs.declared.rows.Datum.{Datum}
use Rattle.descriptors.specs.declared.database.Database.{Database}
use Rattle.descriptors.specs.declared.table.Table.{Table}
use Rattle.descriptors.specs.Contents.{Contents, database_named}
use Rattle.descriptors.specs.Sound.{IsSoundCatalog}
use Rattle.row_locality.specs.Rows.{Fits, is_by_row, region_of, row_cmp, indexes, values_at}
use Rattle.row_locality.specs.Values.{is_small}
use Rattle.row_locality.specs.Pairs.{KeyValue, pairs_of, put_all}

-- ---- plain databases

-- A plain database: the rows of each table, by the table's place in the catalog.
abbrev pub PlainDatabase : Type 0
PlainDatabase = ℕ → List (List Datum)

-- The database of a table.
abbrev pub database_of : Contents → Table → Option Database
database_of c t = database_named t.database c.databases

-- The regions of a table's database, in catalog order.
abbrev pub regions_of : Contents → Table → List (List ℕ)
regions_of c t = option_map_or (λ d. d.regions) (database_of c t) []

-- A row that a table may hold: it fits, its value isn't too long, and it lives in a region of the database.
pub record IsRowOf (c : Contents) (t : Table) (row : List Datum) : Type 0 where
  pub fits : Fits t row
  pub small : IsTrue (is_small t row)
  pub lives : IfSome (region_of t row) (Contains (regions_of c t))

-- Two rows differ in the primary key and in each UNIQUE column.
abbrev pub AreApart : Table → List Datum → List Datum → Type 0
AreApart t a b = All (λ places. values_at places a ≢ values_at places b) (indexes t)

-- The rows of a table: in the order of their primary keys, and no two with an equal primary key or an equal
-- value in a UNIQUE column.
pub record AreRowsOf (c : Contents) (t : Table) (rows : List (List Datum)) : Type 0 where
  pub each : All (IsRowOf c t) rows
  pub rising : AllPairs (λ a b. row_cmp t a b ≡ Less) rows
  pub apart : AllPairs (AreApart t) rows

-- A database is valid under a catalog: each table's rows are such, and there are no others.
pub record IsValid (c : Contents) (d : PlainDatabase) : Type 0 where
  pub tables : (place : ℕ) (t : Table) → slice_get c.tables place ≡ Some t → AreRowsOf c t (d place)
  pub others : (place : ℕ) → length c.tables ≤ place → d place ≡ []

-- ---- ranges

-- A catalog, and for each of its tables the number of its first range.
pub record Layout : Type 0 where
  pub catalog : Contents
  pub first_ranges : List RangeId

-- The regions of a table's partitions, in catalog order. A table that isn't REGIONAL BY ROW is one partition.
abbrev pub partition_regions : Contents → Table → List (Option (List ℕ))
partition_regions c t = if is_by_row t then map (λ r. Some r) (regions_of c t) else None ∷ []

abbrev pub first_range : Layout → ℕ → ℕ
first_range l place = option_map_or (λ r. r.0) (slice_get l.first_ranges place) 0

-- The range of a partition of the table at this place.
abbrev pub range_at : Layout → ℕ → ℕ → RangeId
range_at l place partition = record { 0 = first_range l place + partition }

-- The tables' ranges follow one another, and no number of a range passes 32 bits.
pub record AreRangesOf (l : Layout) : Type 0 where
  pub each : length l.first_ranges ≡ length l.catalog.tables
  pub follow : (place : ℕ) (t : Table) → slice_get l.catalog.tables place ≡ Some t → place + 1 < length l.catalog.tables
      → first_range l (place + 1) ≡ first_range l place + length (partition_regions l.catalog t)
  pub numbered : (place : ℕ) (t : Table) → slice_get l.catalog.tables place ≡ Some t
      → first_range l place + length (partition_regions l.catalog t) ≤ 2 ^ 32

pub record IsSoundLayout (l : Layout) : Type 0 where
  pub catalog : IsSoundCatalog l.catalog
  pub ranges : AreRangesOf l

-- A partition: its range and, where the table is REGIONAL BY ROW, its region.
pub record Partition : Type 0 where
  pub range : RangeId
  pub region : Option (List ℕ)

-- The partitions of the table at this place, in catalog order.
abbrev pub partitions : Layout → ℕ → Table → List Partition
partitions l place t = map (λ x. record { range = range_at l place x.0; region = x.1 }) (enumerate_from 0 (partition_regions l.catalog t))

-- The partition in which a row lives: that of its region, or the only one.
abbrev pub partition_of : Contents → Table → List Datum → ℕ
partition_of c t row = unwrap_or (option_and_then (λ region. position (bytes_eq region) (regions_of c t)) (region_of t row)) 0

abbrev pub range_of : Layout → ℕ → Table → List Datum → RangeId
range_of l place t row = range_at l place (partition_of l.catalog t row)

-- ---- what ranges hold

-- The pairs of a row of the table at this place, where it lives in this range.
abbrev pub pairs_of_row : Layout → RangeId → ℕ → Table → List Datum → List KeyValue
pairs_of_row l range place t row = if (range_of l place t row).0 == range.0 then pairs_of t row else []

-- The pairs of all rows that live in a range, table by table.
abbrev pub pairs_of_rows : Layout → PlainDatabase → RangeId → List KeyValue
pairs_of_rows l d range = flat_map (λ x. flat_map (pairs_of_row l range x.0 x.1) (d x.0)) (enumerate_from 0 l.catalog.tables)

-- What a range holds: the pairs of its rows, in the order of their keys.
unfoldable pub range_pairs : Layout → PlainDatabase → RangeId → List KeyValue
range_pairs l d range = put_all (pairs_of_rows l d range) []
