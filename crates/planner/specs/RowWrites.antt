-- The writes of rows, and the ranges in which they live. (This project's profile.)
use Rattle.std.specs.Prelude.{◌≡◌, ℕ, Bool, true, false, List, [], flat_map, map, position, Option, Some, option_and_then, unwrap_or}
use Rattle.std.specs.Str.{bytes_eq}
use Rattle.mr_base.specs.declared.ids.RangeId.{RangeId}
use Rattle.mr_base.specs.declared.rows.Datum.{Datum}
use Rattle.descriptors.specs.Sound.{IsSoundCatalog}
use Rattle.row_locality.specs.Pairs.{KeyValue, pairs_of}
use Rattle.row_locality.specs.Plain.{Layout, Partition, range_of}
use Rattle.sql_eval.specs.Evaluation.{Outcome, partitions_of}
use Rattle.sql_eval.specs.Execution.{Named, named_table}
use Rattle.sql_eval.specs.OwnWrites.{OwnWrite, addition, removal}
use Rattle.planner.specs.declared.phases.UniqueCheck.{UniqueCheck}

-- A pair is added or removed.
abbrev pub write_by : Bool → RangeId → KeyValue → OwnWrite
write_by true = addition
write_by false = removal

abbrev pub writes_of_row : Bool → Layout → Named → List Datum → List OwnWrite
writes_of_row adds l n row = map (write_by adds (range_of l n.place n.table row)) (pairs_of n.table row)

-- The pairs of rows are added or removed, row by row.
abbrev pub writes_of_rows : Bool → Layout → Named → List (List Datum) → List OwnWrite
writes_of_rows adds l n rows = flat_map (writes_of_row adds l n) rows

-- The place of a region among these, or 0.
abbrev pub place_of_region : List (List ℕ) → Option (List ℕ) → ℕ
place_of_region regions o = unwrap_or (option_and_then (λ region. position (bytes_eq region) regions) o) 0

-- These are the partitions of a table that a name names in a sound catalog.
pub record ArePartitionsOf (l : Layout) (n : Named) (ps : List Partition) : Type 0 where
  pub catalog : IsSoundCatalog l.catalog
  pub name : List ℕ
  pub table : named_table l.catalog name ≡ Some n
  pub partitions : ps ≡ partitions_of l n

-- The check of a statement without new rows.
abbrev pub unchecked : Outcome → UniqueCheck
unchecked x = record { lookups = []; passed = 0; replaced = []; has_twins = false; outcome = x }
