-- The partitions of a table, told from its database and the range of the first. Source: CockroachDB's
-- documentation of table localities, in this project's profile.
use Rattle.std.specs.Prelude.{◌≡◌, ℕ, ◌+◌, if◌then◌else◌, List, length, map, slice_get, Some}
use Rattle.std.specs.List.{enumerate_from}
use Rattle.mr_base.specs.declared.ids.RangeId.{RangeId}
use Rattle.descriptors.specs.declared.database.Database.{Database}
use Rattle.descriptors.specs.declared.table.Table.{Table}
use Rattle.row_locality.specs.Plain.{Layout, Partition, partitions, database_of}
use Rattle.row_locality.specs.Rows.{is_by_row}

-- How many partitions a table of this database has.
abbrev pub partition_count : Table → Database → ℕ
partition_count t d = if is_by_row t then length d.regions else 1

-- A partition for each region, in ranges that follow one another; the first of these regions has this place.
abbrev pub numbered_from : RangeId → ℕ → List (List ℕ) → List Partition
numbered_from first place regions =
    map (λ x. record { range = record { 0 = first.0 + x.0 }; region = x.1 }) (enumerate_from place (map (λ r. Some r) regions))

-- These are the partitions of the table, wherever it stands in a catalog in which it has this database and
-- this first range.
abbrev pub ArePartitions : Table → Database → RangeId → List Partition → Type 0
ArePartitions t d first ps = (l : Layout) (place : ℕ) → database_of l.catalog t ≡ Some d → slice_get l.first_ranges place ≡ Some first
    → ps ≡ partitions l place t
