-- What a change of the catalog makes of rows. Source: CockroachDB's documentation of ALTER TABLE .. SET
-- LOCALITY, in this project's profile.
use Rattle.std.specs.Prelude.{ℕ, Bool, true, false, List, [], ◌∷◌, ◌++◌, length, take, map, slice_get, Option, Some, None, option_and_then, unwrap_or}
use Rattle.mr_base.specs.declared.rows.Datum.{Datum}
use Rattle.mr_base.specs.declared.rows.Datum.TheVariants as datums
use Rattle.descriptors.specs.declared.table.Table.{Table}
use Rattle.descriptors.specs.Contents.{Contents}
use Rattle.descriptors.specs.Refusals.{primary_region}
use Rattle.row_locality.specs.Rows.{is_by_row}
use Rattle.row_locality.specs.Plain.{PlainDatabase, database_of}

-- A row of so many columns, by whether the table was REGIONAL BY ROW and whether it is: it gets the primary
-- region, loses its region, or stays.
abbrev pub row_under : (was is : Bool) → ℕ → List ℕ → List Datum → List Datum
row_under false true columns primary row = row ++ datums.Text primary ∷ []
row_under true false columns primary row = take columns row
row_under false false columns primary row = row
row_under true true columns primary row = row

-- A row of a table under its new locality, in a database with this primary region.
abbrev pub reshaped_row : (old new : Table) → List ℕ → List Datum → List Datum
reshaped_row old new primary row = row_under (is_by_row old) (is_by_row new) (length old.columns) primary row

-- The primary region of a table's database.
abbrev pub home_region : Contents → Table → List ℕ
home_region c t = unwrap_or (option_and_then primary_region (database_of c t)) []

abbrev pub reshaped_rows : Contents → Option Table → Option Table → List (List Datum) → List (List Datum)
reshaped_rows c (Some old) (Some new) rows = map (reshaped_row old new (home_region c new)) rows
reshaped_rows c None new rows = []
reshaped_rows c (Some old) None rows = []

-- A plain database after its catalog became another: a table that was there keeps its rows, reshaped, and a
-- new table has none.
abbrev pub reshaped_database : (old new : Contents) → PlainDatabase → PlainDatabase
reshaped_database old new d place = reshaped_rows new (slice_get old.tables place) (slice_get new.tables place) (d place)
