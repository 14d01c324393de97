-- Which rows the spans of look-ups hold. Source: this project's profile.
use Rattle.std.specs.Prelude.{◌≡◌, ℕ, ◌↔◌, IsTrue, List, [], ◌∷◌}
use Rattle.mr_base.specs.declared.rows.Datum.{Datum}
use Rattle.mr_base.specs.declared.spans.Span.{Span}
use Rattle.descriptors.specs.declared.table.Table.{Table}
use Rattle.row_locality.specs.Rows.{Fits, index_of, values_at, key_of}
use Rattle.row_locality.specs.Keys.{index_key, primary_key}
use Rattle.row_locality.specs.Spans.{is_in}

-- Of the rows that fit a table, the span holds the primary keys of those whose key has these values, and of
-- no others.
abbrev pub HoldsRowsWithKey : Table → List Datum → Span → Type 0
HoldsRowsWithKey t key span = (row : List Datum) → Fits t row → IsTrue (is_in span (primary_key t row)) ↔ (key_of t row ≡ key)

-- The key of a row in the index of a UNIQUE column.
abbrev pub unique_key : Table → ℕ → List Datum → List ℕ
unique_key t column row = index_key (index_of t column) (values_at (column ∷ []) row)

-- Of the rows that fit a table, the span holds the index keys of those with this value in the UNIQUE column,
-- and of no others.
abbrev pub HoldsRowsWithValue : Table → ℕ → Datum → Span → Type 0
HoldsRowsWithValue t column v span = (row : List Datum) → Fits t row → IsTrue (is_in span (unique_key t column row)) ↔ (values_at (column ∷ []) row ≡ v ∷ [])
