-- The faults of a statement on a table that is there, before any row is looked at. Source: PostgreSQL's
-- codes of SQLSTATE; the order of faults is this project's profile.
use Rattle.std.specs.Prelude.{ℕ, ◌==◌, Bool, true, false, not, ◌&&◌, ◌||◌, if◌then◌else◌, List, [], ◌∷◌, ◌++◌, length, map, find, Option, Some, None, option_and_then, is_some}
use Rattle.std.specs.List.{list_all}
use Rattle.std.specs.Option.{option_or}
use Rattle.std.specs.Str.{bytes_eq}
use Rattle.mr_base.specs.declared.states.SqlState.{SqlState}
use Rattle.mr_base.specs.declared.states.SqlState.TheVariants.{S22003, S22P02, S23502, S42601, S42701, S42703, S42804}
use Rattle.region_sql.specs.declared.region_statements.ColumnType.{ColumnType}
use Rattle.region_sql.specs.declared.region_statements.ColumnType.TheVariants as types
use Rattle.region_sql.specs.declared.row_statements.Literal.{Literal}
use Rattle.region_sql.specs.declared.row_statements.Literal.TheVariants as literals
use Rattle.region_sql.specs.declared.row_statements.RowStatement.{RowStatement}
use Rattle.region_sql.specs.declared.row_statements.RowStatement.TheVariants.{Insert, Select, Update, Delete}
use Rattle.region_sql.specs.declared.row_statements.Target.{Target}
use Rattle.region_sql.specs.declared.row_statements.Term.{Term}
use Rattle.region_sql.specs.declared.row_statements.Value.{Value}
use Rattle.region_sql.specs.declared.row_statements.Value.TheVariants as values
use Rattle.region_sql.specs.declared.row_statements.Wanted.{Wanted}
use Rattle.region_sql.specs.declared.row_statements.Wanted.TheVariants as wants
use Rattle.descriptors.specs.declared.database.Database.{Database}
use Rattle.descriptors.specs.declared.table.Table.{Table}
use Rattle.descriptors.specs.Lists.{has_name}
use Rattle.row_locality.specs.Rows.{all_columns}
use Rattle.sql_eval.specs.RowWords.{place_of, is_region_column, datum_of, is_in_range}

-- The first fault of several.
abbrev pub first_fault : List (Option SqlState) → Option SqlState
first_fault [] = None
first_fault (f ∷ fs) = option_or f (first_fault fs)

-- ---- columns, from left to right

-- 42703: there is no such column.
abbrev pub unknown_fault : Table → List ℕ → Option SqlState
unknown_fault t name = if is_some (place_of t name) then None else Some S42703

-- 42701: the column was named before.
abbrev pub again_fault : List (List ℕ) → List ℕ → Option SqlState
again_fault before name = if has_name before name then Some S42701 else None

-- A column that is to be set, after these.
abbrev pub set_fault : Table → List (List ℕ) → List ℕ → Option SqlState
set_fault t before name = option_or (unknown_fault t name) (again_fault before name)

-- The columns of an INSERT, after these.
abbrev pub inserted_fault : Table → List (List ℕ) → List (List ℕ) → Option SqlState
inserted_fault t before [] = None
inserted_fault t before (name ∷ names) = option_or (set_fault t before name) (inserted_fault t (before ++ name ∷ []) names)

-- The column that a value of UPDATE names.
abbrev pub source_fault : Table → Value → Option SqlState
source_fault t (values.Literal l) = None
source_fault t (values.Column name) = unknown_fault t name
source_fault t (values.Plus name by) = unknown_fault t name
source_fault t (values.Minus name by) = unknown_fault t name

-- The targets of an UPDATE with their values, after these.
abbrev pub targets_fault : Table → List (List ℕ) → List Target → Option SqlState
targets_fault t before [] = None
targets_fault t before (x ∷ xs) =
    option_or (set_fault t before x.column) (option_or (source_fault t x.value) (targets_fault t (before ++ x.column ∷ []) xs))

abbrev pub wanted_fault : Table → Wanted → Option SqlState
wanted_fault t wants.All = None
wanted_fault t (wants.Columns names) = first_fault (map (unknown_fault t) names)
wanted_fault t wants.Count = None

abbrev pub terms_fault : Table → List Term → Option SqlState
terms_fault t terms = first_fault (map (λ x. unknown_fault t x.column) terms)

abbrev pub columns_fault : Table → RowStatement → Option SqlState
columns_fault t (Insert table names rows) = inserted_fault t [] names
columns_fault t (Select table wanted terms) = option_or (wanted_fault t wanted) (terms_fault t terms)
columns_fault t (Update table targets terms) = option_or (targets_fault t [] targets) (terms_fault t terms)
columns_fault t (Delete table terms) = terms_fault t terms

-- ---- the shape of an INSERT

-- 42601: a row has another number of values than there are columns.
-- 23502: a column that the table declares gets no value.
abbrev pub shape_fault : Table → RowStatement → Option SqlState
shape_fault t (Insert table names rows) =
    if not (list_all (λ row. length row == length names) rows) then Some S42601
    else (if not (list_all (λ c. has_name names c.0) t.columns) then Some S23502 else None)
shape_fault t (Select table wanted terms) = None
shape_fault t (Update table targets terms) = None
shape_fault t (Delete table terms) = None

-- ---- literals and values, from left to right

abbrev pub is_literal_of : ColumnType → Literal → Bool
is_literal_of types.Int (literals.Int n) = true
is_literal_of types.String (literals.Text s) = true
is_literal_of types.Bool (literals.Bool b) = true
is_literal_of ty l = false

abbrev pub is_among : List (List ℕ) → Literal → Bool
is_among regions (literals.Int n) = false
is_among regions (literals.Text s) = has_name regions s
is_among regions (literals.Bool b) = false

-- A literal for a column. 42804: its type differs. 22003: the integer has more than 64 bits. 22P02: the
-- column is the region, and the text is no region of the database.
abbrev pub literal_fault : Database → List ℕ × ColumnType → Literal → Option SqlState
literal_fault d c l =
    if not (is_literal_of c.1 l) then Some S42804
    else (if not (is_in_range (datum_of l)) then Some S22003
    else (if is_region_column c.0 && not (is_among d.regions l) then Some S22P02 else None))

abbrev pub is_int : ColumnType → Bool
is_int types.Int = true
is_int types.String = false
is_int types.Bool = false

abbrev pub is_same_type : ColumnType → ColumnType → Bool
is_same_type types.Int types.Int = true
is_same_type types.String types.String = true
is_same_type types.Bool types.Bool = true
is_same_type a b = false

-- A column of another one's type may be set to it; the region to itself alone.
abbrev pub may_take : (target source : List ℕ × ColumnType) → Bool
may_take target source = is_same_type target.1 source.1 && (not (is_region_column target.0) || is_region_column source.0)

abbrev pub column_named : Table → List ℕ → Option (List ℕ × ColumnType)
column_named t name = find (λ c. bytes_eq name c.0) (all_columns t)

-- A column as the value of another.
abbrev pub column_fault : (target source : List ℕ × ColumnType) → Option SqlState
column_fault target source = if may_take target source then None else Some S42804

-- A sum or difference as the value of a column.
abbrev pub sum_fault : Literal → (target source : List ℕ × ColumnType) → Option SqlState
sum_fault by target source =
    if not (is_int target.1 && is_int source.1) then Some S42804
    else (if is_in_range (datum_of by) then None else Some S22003)

abbrev pub value_fault : Table → Database → List ℕ × ColumnType → Value → Option SqlState
value_fault t d target (values.Literal l) = literal_fault d target l
value_fault t d target (values.Column name) = option_and_then (column_fault target) (column_named t name)
value_fault t d target (values.Plus name by) = option_and_then (sum_fault (literals.Int by) target) (column_named t name)
value_fault t d target (values.Minus name by) = option_and_then (sum_fault (literals.Int by) target) (column_named t name)

abbrev pub named_literal_fault : Table → Database → List ℕ → Literal → Option SqlState
named_literal_fault t d name l = option_and_then (λ c. literal_fault d c l) (column_named t name)

-- The literals of a row of VALUES for these columns.
abbrev pub row_literals_fault : Table → Database → List (List ℕ) → List Literal → Option SqlState
row_literals_fault t d [] row = None
row_literals_fault t d (name ∷ names) [] = None
row_literals_fault t d (name ∷ names) (l ∷ ls) = option_or (named_literal_fault t d name l) (row_literals_fault t d names ls)

abbrev pub target_value_fault : Table → Database → Target → Option SqlState
target_value_fault t d x = option_and_then (λ c. value_fault t d c x.value) (column_named t x.column)

abbrev pub term_literals_fault : Table → Database → List Term → Option SqlState
term_literals_fault t d terms = first_fault (map (λ x. named_literal_fault t d x.column x.literal) terms)

abbrev pub literals_fault : Table → Database → RowStatement → Option SqlState
literals_fault t d (Insert table names rows) = first_fault (map (row_literals_fault t d names) rows)
literals_fault t d (Select table wanted terms) = term_literals_fault t d terms
literals_fault t d (Update table targets terms) =
    option_or (first_fault (map (target_value_fault t d) targets)) (term_literals_fault t d terms)
literals_fault t d (Delete table terms) = term_literals_fault t d terms

-- ---- all of them

-- The first fault of a statement on a table, before any row is looked at: of its columns, then of its shape,
-- then of its literals.
unfoldable pub check_fault : Table → Database → RowStatement → Option SqlState
check_fault t d s = option_or (columns_fault t s) (option_or (shape_fault t s) (literals_fault t d s))
