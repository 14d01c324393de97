-- What statements say of single rows: which rows match, and which rows are made. Source: PostgreSQL's
-- documentation of INSERT, SELECT, UPDATE and DELETE, and CockroachDB's of `crdb_region`, in this
-- project's profile.
use Rattle.std.specs.Prelude.{ℕ, ℤ, pos, negsuc, ◌+ℤ◌, ◌-ℤ◌, ◌^◌, Bool, true, false, ◌||◌, if◌then◌else◌, nat_lt, List, [], ◌∷◌, length, map, take, find, position, filter_map, slice_get, Option, Some, None, option_map, option_and_then, unwrap_or, Result, Ok, Err, codes}
use Rattle.std.specs.List.{list_all, list_any, enumerate_from}
use Rattle.std.specs.Option.{option_map_or, option_or}
use Rattle.std.specs.Ordering.{is_eq, is_ne, is_lt, is_le, is_gt, is_ge}
use Rattle.std.specs.declared.cmp.Ordering.{Ordering}
use Rattle.std.specs.Str.{bytes_eq}
use Rattle.mr_base.specs.declared.rows.Datum.{Datum}
use Rattle.mr_base.specs.declared.rows.Datum.TheVariants as datums
use Rattle.mr_base.specs.declared.states.SqlState.{SqlState}
use Rattle.mr_base.specs.declared.states.SqlState.TheVariants.{S22003, S54000}
use Rattle.region_sql.specs.declared.row_statements.Comparison.{Comparison}
use Rattle.region_sql.specs.declared.row_statements.Comparison.TheVariants as comparisons
use Rattle.region_sql.specs.declared.row_statements.Literal.{Literal}
use Rattle.region_sql.specs.declared.row_statements.Literal.TheVariants as literals
use Rattle.region_sql.specs.declared.row_statements.Target.{Target}
use Rattle.region_sql.specs.declared.row_statements.Term.{Term}
use Rattle.region_sql.specs.declared.row_statements.Value.{Value}
use Rattle.region_sql.specs.declared.row_statements.Value.TheVariants as values
use Rattle.region_sql.specs.declared.row_statements.Wanted.{Wanted}
use Rattle.region_sql.specs.declared.row_statements.Wanted.TheVariants as wants
use Rattle.descriptors.specs.declared.database.Database.{Database}
use Rattle.descriptors.specs.declared.table.Table.{Table}
use Rattle.descriptors.specs.Lists.{has_name}
use Rattle.descriptors.specs.Refusals.{primary_region}
use Rattle.row_locality.specs.Rows.{all_columns, datum_cmp, are_equal_in, indexes}
use Rattle.row_locality.specs.Values.{is_small}

-- Results in a row: the first fault ends it.
infixl 10 ◌>>=◌
abbrev pub ◌>>=◌ : {A B : Type 0} → Result A SqlState → (A → Result B SqlState) → Result B SqlState
(Ok x) >>= f = f x
(Err e) >>= f = Err e

abbrev pub all_values : {A : Type 0} → List (Result A SqlState) → Result (List A) SqlState
all_values [] = Ok []
all_values (r ∷ rs) = r >>= λ x. all_values rs >>= λ xs. Ok (x ∷ xs)

-- ---- columns and values

-- The place of a column among all columns of the table.
abbrev pub place_of : Table → List ℕ → Option ℕ
place_of t name = position (λ c. bytes_eq name c.0) (all_columns t)

-- The value of a row in a column.
abbrev pub value_in : Table → List Datum → List ℕ → Option Datum
value_in t row name = option_and_then (slice_get row) (place_of t name)

abbrev pub is_region_column : List ℕ → Bool
is_region_column name = bytes_eq name (codes "crdb_region")

abbrev pub datum_of : Literal → Datum
datum_of (literals.Int n) = datums.Int n
datum_of (literals.Text s) = datums.Text s
datum_of (literals.Bool b) = datums.Bool b

-- An INT has 64 bits.
abbrev pub fits_int : ℤ → Bool
fits_int (pos n) = nat_lt n (2 ^ 63)
fits_int (negsuc n) = nat_lt n (2 ^ 63)

abbrev pub is_in_range : Datum → Bool
is_in_range (datums.Int n) = fits_int n
is_in_range (datums.Text s) = true
is_in_range (datums.Bool b) = true

-- ---- rows that match

abbrev pub compares : Comparison → Ordering → Bool
compares comparisons.Eq o = is_eq o
compares comparisons.Lt o = is_lt o
compares comparisons.Le o = is_le o
compares comparisons.Gt o = is_gt o
compares comparisons.Ge o = is_ge o
compares comparisons.Ne o = is_ne o

-- Whether a term of WHERE holds for a row.
abbrev pub holds : Table → List Datum → Term → Bool
holds t row term = option_map_or (λ v. compares term.op (datum_cmp v (datum_of term.literal))) (value_in t row term.column) false

-- Whether all terms hold.
unfoldable pub matches : Table → List Term → List Datum → Bool
matches t terms row = list_all (holds t row) terms

-- ---- rows that are made

-- What a row may not be: an INT in it has more than 64 bits, or its value is longer than 1,024 bytes.
abbrev pub row_fault : Table → List Datum → Option SqlState
row_fault t row = if list_all is_in_range row then (if is_small t row then None else Some S54000) else Some S22003

abbrev pub or_fault : {A : Type 0} → Option SqlState → A → Result A SqlState
or_fault None x = Ok x
or_fault (Some e) x = Err e

abbrev pub checked_row : Table → List Datum → Result (List Datum) SqlState
checked_row t row = or_fault (row_fault t row) row

-- The region that a row gets of which none is given: the gateway's where that is a region of the database,
-- else the primary region.
abbrev pub default_region : Database → List ℕ → List ℕ
default_region d gateway = if has_name d.regions gateway then gateway else unwrap_or (primary_region d) []

-- The literal of a column in a row of VALUES.
abbrev pub given_value : List (List ℕ) → List Literal → List ℕ → Option Datum
given_value names row name = option_map datum_of (option_and_then (slice_get row) (position (bytes_eq name) names))

abbrev pub region_if : List ℕ → List ℕ → Option Datum
region_if region name = if is_region_column name then Some (datums.Text region) else None

-- The row that INSERT makes of a row of VALUES for these columns; without one of its own it gets the region.
unfoldable pub made_row : Table → List ℕ → List (List ℕ) → List Literal → List Datum
made_row t region names row = filter_map (λ c. option_or (given_value names row c.0) (region_if region c.0)) (all_columns t)

-- The rows of an INSERT in the order of the text, or the first fault.
unfoldable pub made_rows : Table → List ℕ → List (List ℕ) → List (List Literal) → Result (List (List Datum)) SqlState
made_rows t region names rows = all_values (map (λ row. checked_row t (made_row t region names row)) rows)

abbrev pub plus : ℤ → Datum → Datum
plus by (datums.Int n) = datums.Int (n +ℤ by)
plus by (datums.Text s) = datums.Text s
plus by (datums.Bool b) = datums.Bool b

abbrev pub minus : ℤ → Datum → Datum
minus by (datums.Int n) = datums.Int (n -ℤ by)
minus by (datums.Text s) = datums.Text s
minus by (datums.Bool b) = datums.Bool b

-- What UPDATE sets a column to, computed from the old row.
abbrev pub new_value : Table → List Datum → Value → Option Datum
new_value t old (values.Literal l) = Some (datum_of l)
new_value t old (values.Column name) = value_in t old name
new_value t old (values.Plus name by) = option_map (plus by) (value_in t old name)
new_value t old (values.Minus name by) = option_map (minus by) (value_in t old name)

-- The new value of a column, where UPDATE sets it.
abbrev pub set_value : Table → List Target → List Datum → List ℕ → Option Datum
set_value t targets old name = option_and_then (λ x. new_value t old x.value) (find (λ x. bytes_eq name x.column) targets)

-- The row that UPDATE makes of an old one.
unfoldable pub changed_row : Table → List Target → List Datum → List Datum
changed_row t targets old = filter_map (λ x. option_or (set_value t targets old x.1.0) (slice_get old x.0)) (enumerate_from 0 (all_columns t))

-- The rows that UPDATE makes of old ones, in their order, or the first fault.
unfoldable pub changed_rows : Table → List Target → List (List Datum) → Result (List (List Datum)) SqlState
changed_rows t targets olds = all_values (map (λ old. checked_row t (changed_row t targets old)) olds)

-- ---- rows that are shown

-- What SELECT answers of the rows that match. `*` leaves the region out, and count(*) is one row with the
-- number of rows.
abbrev pub shown_rows : Table → Wanted → List (List Datum) → List (List Datum)
shown_rows t wants.All rows = map (take (length t.columns)) rows
shown_rows t (wants.Columns names) rows = map (λ row. filter_map (value_in t row) names) rows
shown_rows t wants.Count rows = (datums.Int (pos (length rows)) ∷ []) ∷ []

-- ---- rows that may not stand side by side

-- Two rows with an equal primary key, or an equal value in a UNIQUE column.
abbrev pub are_twins : Table → List Datum → List Datum → Bool
are_twins t a b = list_any (are_equal_in a b) (indexes t)

unfoldable pub has_twins : Table → List (List Datum) → Bool
has_twins t [] = false
has_twins t (row ∷ rows) = list_any (are_twins t row) rows || has_twins t rows
