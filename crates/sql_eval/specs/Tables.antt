-- Tables as they are kept, seen as a plain database. (This project's profile.)
use Rattle.std.specs.Prelude.{List, [], slice_get, unwrap_or}
use Rattle.mr_base.specs.declared.rows.Datum.{Datum}
use Rattle.row_locality.specs.Plain.{PlainDatabase}
use Rattle.sql_eval.specs.declared.naming.NamedTable.{NamedTable}
use Rattle.sql_eval.specs.Execution.{Named}

-- The plain database of the rows of each table in catalog order.
abbrev pub database_in : List (List (List Datum)) → PlainDatabase
database_in tables = λ place. unwrap_or (slice_get tables place) []

abbrev pub named : NamedTable → Named
named n = record { place = n.place; table = n.table.now; database = n.database.now }
