use Rattle.std.specs.Prelude.{ℕ, ℤ, Bool, false, int_lt, ◌||◌, if◌then◌else◌, List, [], ◌∷◌, length, Result, Ok, Err}
use Rattle.std.specs.Ordering.{int_eq}
use Rattle.mr_base.specs.declared.rows.Datum.{Datum}
use Rattle.mr_base.specs.declared.states.SqlState.{SqlState}
use Rattle.mr_base.specs.declared.states.SqlState.TheVariants as states
use Rattle.region_sql.specs.declared.one_column_forms.OneColumnStatement.{OneColumnStatement}
use Rattle.region_sql.specs.declared.one_column_forms.OneColumnStatement.TheVariants.{Insert, SelectAll}
use Rattle.row_locality.specs.OneColumnDatabases.{Database, row_with, id_of}

-- The answer of a statement: how many rows, and the rows themselves for a SELECT.
pub record Answer : Type 0 where
  pub count : ℕ
  pub rows : List (List Datum)

-- What executing a statement gives: its answer and the database after it.
pub record Executed : Type 0 where
  pub answer : Answer
  pub after : Database

-- Some row has this id.
abbrev pub has_id : ℤ → Database → Bool
has_id n [] = false
has_id n (row ∷ rows) = int_eq (id_of row) n || has_id n rows

-- The row with this id besides, in its place.
abbrev pub with_id : ℤ → Database → Database
with_id n [] = row_with n ∷ []
with_id n (row ∷ rows) = if int_lt n (id_of row) then row_with n ∷ row ∷ rows else row ∷ with_id n rows

-- What a statement does on one site: an INSERT of an id that is there is a fault that changes nothing, and
-- a SELECT answers all rows in order. (PostgreSQL's codes of SQLSTATE.)
abbrev pub exec : OneColumnStatement → Database → Result Executed SqlState
exec (Insert n) d =
    if has_id n d then Err states.S23505
    else Ok (record { answer = record { count = 1; rows = [] }; after = with_id n d })
exec SelectAll d = Ok (record { answer = record { count = length d; rows = d }; after = d })
