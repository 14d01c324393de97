-- What a list of statements does on a plain database, one statement after the other: the meaning of SQL,
-- which knows nothing of ranges, keys or reads. Source: PostgreSQL's documentation of INSERT, SELECT, UPDATE
-- and DELETE, in this project's profile.
use Rattle.std.specs.Prelude.{ℕ, ◌==◌, not, if◌then◌else◌, List, [], ◌∷◌, ◌++◌, length, filter, slice_get, position, Option, Some, None, option_map, option_and_then, Result, Ok, Err}
use Rattle.std.specs.Option.{option_map_or}
use Rattle.std.specs.Ordering.{is_lt}
use Rattle.mr_base.specs.declared.results.StatementResult.{StatementResult}
use Rattle.mr_base.specs.declared.results.Verb.TheVariants as verbs
use Rattle.mr_base.specs.declared.results.Verb.{Verb}
use Rattle.mr_base.specs.declared.rows.Datum.{Datum}
use Rattle.mr_base.specs.declared.states.SqlState.{SqlState}
use Rattle.mr_base.specs.declared.states.SqlState.TheVariants.{S23505, S42P01}
use Rattle.region_sql.specs.declared.row_statements.RowStatement.{RowStatement}
use Rattle.region_sql.specs.declared.row_statements.RowStatement.TheVariants.{Insert, Select, Update, Delete}
use Rattle.descriptors.specs.declared.database.Database.{Database}
use Rattle.descriptors.specs.declared.table.Table.{Table}
use Rattle.descriptors.specs.Contents.{Contents, current_database, is_table}
use Rattle.row_locality.specs.Rows.{row_cmp}
use Rattle.row_locality.specs.Plain.{PlainDatabase, database_of}
use Rattle.sql_eval.specs.RowWords.{◌>>=◌, matches, default_region, made_rows, changed_rows, shown_rows, has_twins}
use Rattle.sql_eval.specs.Faults.{check_fault}

-- ---- the table of a statement

-- A table that a statement names: its place in the catalog, the table, and its database.
pub record Named : Type 0 where
  pub place : ℕ
  pub table : Table
  pub database : Database

abbrev pub table_name : RowStatement → List ℕ
table_name (Insert table names rows) = table
table_name (Select table wanted terms) = table
table_name (Update table targets terms) = table
table_name (Delete table terms) = table

-- The place of the table of this name in the current database.
abbrev pub place_named : Contents → List ℕ → Option ℕ
place_named c name = option_and_then (λ d. position (is_table d.name name) c.tables) (current_database c)

abbrev pub with_database : Contents → ℕ → Table → Option Named
with_database c place t = option_map (λ d. record { place = place; table = t; database = d }) (database_of c t)

unfoldable pub named_table : Contents → List ℕ → Option Named
named_table c name = option_and_then (λ place. option_and_then (with_database c place) (slice_get c.tables place)) (place_named c name)

-- ---- the rows of a table

-- A row in its place among others, by primary key.
abbrev pub with_row : Table → List Datum → List (List Datum) → List (List Datum)
with_row t row [] = row ∷ []
with_row t row (r ∷ rs) = if is_lt (row_cmp t row r) then row ∷ r ∷ rs else r ∷ with_row t row rs

abbrev pub rows_in_order : Table → List (List Datum) → List (List Datum)
rows_in_order t [] = []
rows_in_order t (row ∷ rows) = with_row t row (rows_in_order t rows)

-- The table of these rows. 23505: two have an equal primary key, or an equal value in a UNIQUE column.
abbrev pub table_rows : Table → List (List Datum) → Result (List (List Datum)) SqlState
table_rows t rows = if has_twins t rows then Err S23505 else Ok (rows_in_order t rows)

-- ---- statements

-- The answer of a statement that shows no rows.
abbrev pub count_answer : Verb → ℕ → StatementResult
count_answer verb n = record { verb = verb; count = n; rows = [] }

-- The answer of a SELECT.
abbrev pub rows_answer : List (List Datum) → StatementResult
rows_answer rows = record { verb = verbs.Select; count = length rows; rows = rows }

-- A statement without a fault of its own, on the rows of its table: its answer, and the rows after it.
unfoldable pub on_rows : Named → List ℕ → RowStatement → List (List Datum) → Result (StatementResult × List (List Datum)) SqlState
on_rows n gateway (Insert table names literals) rows =
    made_rows n.table (default_region n.database gateway) names literals >>= λ made.
    table_rows n.table (rows ++ made) >>= λ after.
    Ok (count_answer verbs.Insert (length made), after)
on_rows n gateway (Select table wanted terms) rows =
    Ok (rows_answer (shown_rows n.table wanted (filter (matches n.table terms) rows)), rows)
on_rows n gateway (Update table targets terms) rows =
    changed_rows n.table targets (filter (matches n.table terms) rows) >>= λ changed.
    table_rows n.table (filter (λ row. not (matches n.table terms row)) rows ++ changed) >>= λ after.
    Ok (count_answer verbs.Update (length changed), after)
on_rows n gateway (Delete table terms) rows =
    Ok (
      count_answer verbs.Delete (length (filter (matches n.table terms) rows)),
      filter (λ row. not (matches n.table terms row)) rows,
    )

-- A database with these rows in one table.
abbrev pub with_rows : PlainDatabase → ℕ → List (List Datum) → PlainDatabase
with_rows d place rows = λ other. if other == place then rows else d other

abbrev pub unless : {A : Type 0} → Option SqlState → Result A SqlState → Result A SqlState
unless None r = r
unless (Some e) r = Err e

abbrev pub on_table : List ℕ → RowStatement → PlainDatabase → Named → Result (StatementResult × PlainDatabase) SqlState
on_table gateway s d n =
    unless (check_fault n.table n.database s) (on_rows n gateway s (d n.place)) >>= λ x.
    Ok (x.0, with_rows d n.place x.1)

-- One statement: its answer and the database after it, or its fault. 42P01: there is no such table.
unfoldable pub exec_statement : Contents → List ℕ → RowStatement → PlainDatabase → Result (StatementResult × PlainDatabase) SqlState
exec_statement c gateway s d = option_map_or (on_table gateway s d) (named_table c (table_name s)) (Err S42P01)

-- Statements one after the other. Each sees what the earlier ones wrote, and a fault undoes all.
unfoldable pub exec_list : Contents → List ℕ → List RowStatement → PlainDatabase → Result (List StatementResult × PlainDatabase) SqlState
exec_list c gateway [] d = Ok ([], d)
exec_list c gateway (s ∷ ss) d =
    exec_statement c gateway s d >>= λ x.
    exec_list c gateway ss x.1 >>= λ y.
    Ok (x.0 ∷ y.0, y.1)

-- A list as it was read, from a gateway in this region.
unfoldable pub exec : Contents → List ℕ → Result (List RowStatement) SqlState → PlainDatabase
    → Result (List StatementResult × PlainDatabase) SqlState
exec c gateway list d = list >>= λ ss. exec_list c gateway ss d
