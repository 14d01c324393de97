-- How a transaction's list is read. Source: PostgreSQL's codes of SQLSTATE and CockroachDB's documentation
-- of reads of the past and of bounded staleness, in this project's profile.
use Rattle.std.specs.Prelude.{◌≡◌, ℕ, ◌==◌, ◌⊎◌, Bool, true, false, not, ◌&&◌, if◌then◌else◌, nat_lt, List, length, Result, Ok, Err}
use Rattle.std.specs.List.{list_all}
use Rattle.mr_base.specs.declared.settings.Kind.{Kind}
use Rattle.mr_base.specs.declared.settings.Kind.TheVariants.{Now, Ago, Within}
use Rattle.mr_base.specs.declared.states.SqlState.{SqlState}
use Rattle.mr_base.specs.declared.states.SqlState.TheVariants.{S0A000, S25006, S42601, S54000}
use Rattle.region_sql.specs.declared.row_statements.RowStatement.{RowStatement}
use Rattle.region_sql.specs.declared.row_statements.RowStatement.TheVariants.{Insert, Select, Update, Delete}
use Rattle.region_sql.specs.Grammar.{IsListText}

abbrev pub is_select : RowStatement → Bool
is_select (Insert table names rows) = false
is_select (Select table wanted terms) = true
is_select (Update table targets terms) = false
is_select (Delete table terms) = false

-- Whether the transaction reads the past.
abbrev pub is_past : Kind → Bool
is_past Now = false
is_past (Ago ms) = true
is_past (Within ms any) = true

abbrev pub is_bounded : Kind → Bool
is_bounded Now = false
is_bounded (Ago ms) = false
is_bounded (Within ms any) = true

-- A list of statements, by when it reads. 54000: it has more than 64 statements. 25006: it reads the past,
-- and a statement isn't a SELECT. 0A000: its staleness is bounded, and it isn't one statement.
abbrev pub list_result : Kind → List RowStatement → Result (List RowStatement) SqlState
list_result kind list =
    if nat_lt 64 (length list) then Err S54000
    else (if is_past kind && not (list_all is_select list) then Err S25006
    else (if is_bounded kind && not (length list == 1) then Err S0A000 else Ok list))

-- A text is read as this list, or has this fault. 42601: it is no list. (No text is two lists.)
abbrev pub IsReadAs : List ℕ → Kind → Result (List RowStatement) SqlState → Type 0
IsReadAs text kind r =
    ((list : List RowStatement) × IsListText text list × (r ≡ list_result kind list))
    ⊎ (((list : List RowStatement) → IsListText text list → ⊥) × (r ≡ Err S42601))
