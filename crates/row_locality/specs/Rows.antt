-- The rows of a table: the types of their values, and the orders of values and keys. Source: PostgreSQL's
-- types of the same names and CockroachDB's documentation of REGIONAL BY ROW, in this project's profile.
use Rattle.std.specs.Prelude.{ℕ, ◌+◌, ◌==◌, Bool, true, false, if◌then◌else◌, ⊤, List, [], ◌∷◌, ◌++◌, length, map, filter_map, slice_get, Option, Some, None, option_and_then, FitsSigned, IsUtf8, codes}
use Rattle.std.specs.Cmp.Lexicographic.{slice_cmp}
use Rattle.std.specs.Int.{w64}
use Rattle.std.specs.List.{AllZip, position_or_len}
use Rattle.std.specs.Ordering.{nat_cmp, int_cmp, bool_cmp, eq_by_cmp, on}
use Rattle.std.specs.declared.cmp.Ordering.{Ordering}
use Rattle.std.specs.declared.cmp.Ordering.TheVariants.{Less, Greater}
use Rattle.mr_base.specs.declared.rows.Datum.{Datum}
use Rattle.mr_base.specs.declared.rows.Datum.TheVariants as datums
use Rattle.region_sql.specs.declared.region_statements.ColumnType.{ColumnType}
use Rattle.region_sql.specs.declared.region_statements.ColumnType.TheVariants as types
use Rattle.region_sql.specs.declared.region_statements.Locality.{Locality}
use Rattle.region_sql.specs.declared.region_statements.Locality.TheVariants.{InPrimary, InRegion, ByRow, Global}
use Rattle.descriptors.specs.declared.table.Table.{Table}

-- ---- columns

abbrev pub lives_by_row : Option Locality → Bool
lives_by_row None = false
lives_by_row (Some InPrimary) = false
lives_by_row (Some (InRegion region)) = false
lives_by_row (Some ByRow) = true
lives_by_row (Some Global) = false

-- Whether the table is REGIONAL BY ROW.
abbrev pub is_by_row : Table → Bool
is_by_row t = lives_by_row t.locality

-- The last column of a REGIONAL BY ROW table: the name of the region in which the row lives.
abbrev pub region_column : List ℕ × ColumnType
region_column = (codes "crdb_region", types.String)

-- All columns of a table's rows: those that it declares and, for REGIONAL BY ROW, the region.
abbrev pub all_columns : Table → List (List ℕ × ColumnType)
all_columns t = if is_by_row t then t.columns ++ region_column ∷ [] else t.columns

-- ---- rows

-- A value of this type. A text is UTF-8, and an INT has 64 bits.
abbrev pub HasType : ColumnType → Datum → Type 0
HasType types.Int (datums.Int n) = FitsSigned w64 n
HasType types.String (datums.Text s) = IsUtf8 s
HasType types.Bool (datums.Bool b) = ⊤
HasType ty v = ⊥

-- A row fits a table: it has one value of its type for each of all columns.
abbrev pub Fits : Table → List Datum → Type 0
Fits t row = AllZip (λ c v. HasType c.1 v) (all_columns t) row

abbrev pub text_of : Datum → Option (List ℕ)
text_of (datums.Int n) = None
text_of (datums.Text s) = Some s
text_of (datums.Bool b) = None

-- The region in which a row lives, where the table is REGIONAL BY ROW.
abbrev pub region_of : Table → List Datum → Option (List ℕ)
region_of t row = if is_by_row t then option_and_then text_of (slice_get row (length t.columns)) else None

-- ---- orders

-- INT orders by value, STRING by bytes, and false stands before true. (Values of one column have one type.)
abbrev pub datum_cmp : Datum → Datum → Ordering
datum_cmp (datums.Int m) (datums.Int n) = int_cmp m n
datum_cmp (datums.Int m) (datums.Text s) = Less
datum_cmp (datums.Int m) (datums.Bool b) = Less
datum_cmp (datums.Text s) (datums.Int n) = Greater
datum_cmp (datums.Text r) (datums.Text s) = slice_cmp nat_cmp r s
datum_cmp (datums.Text s) (datums.Bool b) = Less
datum_cmp (datums.Bool b) (datums.Int n) = Greater
datum_cmp (datums.Bool b) (datums.Text s) = Greater
datum_cmp (datums.Bool a) (datums.Bool b) = bool_cmp a b

-- Keys of several columns order by the first value that differs.
abbrev pub key_cmp : List Datum → List Datum → Ordering
key_cmp = slice_cmp datum_cmp

-- ---- indexes

-- The columns of the secondary indexes: each UNIQUE column has one of its own.
abbrev pub unique_indexes : Table → List (List ℕ)
unique_indexes t = map (λ c. c ∷ []) t.unique

-- The indexes of a table by their numbers, each with the places of its columns: number 0 is the primary
-- key, and 1, 2, .. are the UNIQUE columns in declared order. No two rows of a table have the same values
-- in the columns of one index.
abbrev pub indexes : Table → List (List ℕ)
indexes t = t.key ∷ unique_indexes t

-- The number of the index of a UNIQUE column.
abbrev pub index_of : Table → ℕ → ℕ
index_of t column = 1 + position_or_len (λ c. c == column) t.unique

-- The values of a row in these columns.
abbrev pub values_at : List ℕ → List Datum → List Datum
values_at places row = filter_map (slice_get row) places

-- The values of a row's primary key, in the order in which the key names its columns.
abbrev pub key_of : Table → List Datum → List Datum
key_of t row = values_at t.key row

-- The rows of a table stand in the order of their primary keys.
abbrev pub row_cmp : Table → List Datum → List Datum → Ordering
row_cmp t = on (key_of t) key_cmp

-- Whether two rows have the same values in these columns.
abbrev pub are_equal_in : List Datum → List Datum → List ℕ → Bool
are_equal_in a b places = eq_by_cmp key_cmp (values_at places a) (values_at places b)
