-- A span to look up in a partition, and the terms by which rows are found. Source: this project's profile.
use Rattle.std.specs.Prelude.{ℕ, if◌then◌else◌, List, Option, Some, None, IsSomeAnd}
use Rattle.std.specs.Str.{bytes_eq}
use Rattle.mr_base.specs.declared.spans.Span.{Span}
use Rattle.region_sql.specs.declared.region_statements.ColumnType.{ColumnType}
use Rattle.region_sql.specs.declared.row_statements.Term.{Term}
use Rattle.descriptors.specs.declared.table.Table.{Table}
use Rattle.row_locality.specs.Plain.{Partition}
use Rattle.row_locality.specs.Rows.{HasType, is_by_row, region_column}
use Rattle.sql_eval.specs.Faults.{column_named}
use Rattle.sql_eval.specs.RowWords.{datum_of}
use Rattle.sql_eval.specs.Search.{Lookup}

abbrev pub lookup_in : ℕ → Span → Partition → Lookup
lookup_in index span p = record { partition = p; index = index; span = span }

-- A term compares a column of the table with a literal of the column's type.
abbrev pub IsTypedTerm : Table → Term → Type 0
IsTypedTerm t x = IsSomeAnd (column_named t x.column) (λ c. HasType c.1 (datum_of x.literal))

-- The type of the region's column, where the table has it and this is its name.
abbrev pub hidden_type : Table → List ℕ → Option ColumnType
hidden_type t name = if is_by_row t then (if bytes_eq name region_column.0 then Some region_column.1 else None) else None
