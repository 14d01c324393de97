-- What decoding a pair answers. Source: this project's profile.
use Rattle.std.specs.Prelude.{◌≡◌, ℕ, ⊤, List, Option, Some, None, option_map, Result, Ok, Err, IsTrue, IsFalse, IsUtf8}
use Rattle.mr_base.specs.declared.rows.Datum.{Datum}
use Rattle.mr_base.specs.declared.spans.Span.{Span}
use Rattle.descriptors.specs.declared.table.Table.{Table}
use Rattle.row_locality.specs.declared.decode_fault.DecodeFault.{DecodeFault}
use Rattle.row_locality.specs.declared.decode_fault.DecodeFault.TheVariants as faults
use Rattle.row_locality.specs.Rows.{is_by_row, index_of}
use Rattle.row_locality.specs.Keys.{IsKeyOf}
use Rattle.row_locality.specs.Pairs.{KeyValue, IsPairOf}
use Rattle.row_locality.specs.Reading.{primary_of}
use Rattle.row_locality.specs.Spans.{point_of}

-- The region of a partition of a table: a text for a table that is REGIONAL BY ROW, and none for any other.
abbrev pub IsRegionFor : Table → Option (List ℕ) → Type 0
IsRegionFor t None = IsFalse (is_by_row t)
IsRegionFor t (Some region) = IsTrue (is_by_row t) × IsUtf8 region

-- Why a pair isn't decoded: no row that fits the table has it, or memory ran out.
abbrev pub IsDecodeFault : Table → Option (List ℕ) → KeyValue → DecodeFault → Type 0
IsDecodeFault t region p faults.Malformed = (row : List Datum) → ¬ IsPairOf t region row p
IsDecodeFault t region p faults.Memory = ⊤

-- A call answers what reading gives, seen by view, and Malformed where reading gives nothing. Want of memory
-- is free.
abbrev pub Reads : {X Y : Type 0} → (X → Y) → Result X DecodeFault → Option Y → Type 0
Reads view (Ok x) read = read ≡ Some (view x)
Reads view (Err faults.Malformed) read = read ≡ None
Reads view (Err faults.Memory) read = ⊤

-- The pair is of the index of a UNIQUE column: its key is a key of that index, and its value is a primary key.
abbrev pub IsIndexPair : Table → ℕ → KeyValue → Type 0
IsIndexPair t column p = IsKeyOf t (index_of t column) p.0 × IsKeyOf t 0 p.1

-- Why an index pair leads nowhere: it is none, or memory ran out.
abbrev pub IsIndexFault : Table → ℕ → KeyValue → DecodeFault → Type 0
IsIndexFault t column p faults.Malformed = ¬ IsIndexPair t column p
IsIndexFault t column p faults.Memory = ⊤

-- The point of the primary key to which a pair leads.
abbrev pub point_named : Table → ℕ → KeyValue → Option Span
point_named t column p = option_map point_of (primary_of t (index_of t column) p)
