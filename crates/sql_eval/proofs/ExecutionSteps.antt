-- Statements one after the other, and tables with new rows.
use Rattle.std.proofs.Common.{◌≡◌, ℕ, ◌+◌, ◌<◌, ◌≤◌, false, ◌==◌, if◌then◌else◌, List, [], ◌∷◌, ◌++◌, Some, None, Result, Ok, Err, length, drop, get_or, set, refl, sym, ap, ◌∙◌, slice_get, unwrap_or, zero, suc, arith}
use Rattle.std.proofs.lemmas.Bool.Decides.{nat_tests}
use Rattle.std.proofs.lemmas.List.{append-nil, append_assoc, drop_more, drop_all}
use Rattle.mr_base.specs.declared.results.StatementResult.{StatementResult}
use Rattle.mr_base.specs.declared.rows.Datum.{Datum}
use Rattle.mr_base.specs.declared.states.SqlState.{SqlState}
use Rattle.region_sql.specs.declared.row_statements.RowStatement.{RowStatement}
use Rattle.descriptors.specs.Contents.{Contents}
use Rattle.row_locality.specs.Plain.{PlainDatabase}
use Rattle.sql_eval.specs.RowWords.{◌>>=◌}
use Rattle.std.specs.Option.{option_map_or}
use Rattle.mr_base.specs.declared.states.SqlState.TheVariants.{S42P01}
use Rattle.sql_eval.specs.Answered.{Answers, IsStopOf}
use Rattle.sql_eval.specs.Faults.{check_fault}
use Rattle.sql_eval.specs.declared.stop.Stop.{Stop}
use Rattle.sql_eval.specs.declared.stop.Stop.TheVariants as stops
use Rattle.sql_eval.specs.Execution.{Named, named_table, table_name, on_rows, on_table, unless, exec_statement, exec_list, with_rows}
use Rattle.sql_eval.specs.Tables.{database_in}

-- ---- tables

rows_after_set : (tables : List (List (List Datum))) (place : ℕ) (rows : List (List Datum)) (other : ℕ) → place < length tables
    → database_in (set tables place rows) other ≡ with_rows (database_in tables) place rows other
rows_after_set [] place rows other lt = absurd (omega arith)
rows_after_set (t ∷ ts) zero rows zero lt = refl
rows_after_set (t ∷ ts) zero rows (suc other) lt =
    let differ : (suc other == 0) ≡ false = grind (arith, nat_tests) in
    ap (λ b. if b then rows else unwrap_or (slice_get ts other) []) (sym differ)
rows_after_set (t ∷ ts) (suc place) rows zero lt =
    let differ : (0 == suc place) ≡ false = grind (arith, nat_tests) in
    ap (λ b. if b then rows else t) (sym differ)
rows_after_set (t ∷ ts) (suc place) rows (suc other) lt =
    let same : (suc other == suc place) ≡ (other == place) = grind (arith, nat_tests) in
    rows_after_set ts place rows other (omega arith) ∙ ap (λ b. if b then rows else unwrap_or (slice_get ts other) []) (sym same)

-- New rows of one table are a database with these rows in it.
pub tables_with_rows : (tables : List (List (List Datum))) (place : ℕ) (rows : List (List Datum)) → place < length tables → database_in (set tables place rows) ≡ with_rows (database_in tables) place rows
tables_with_rows tables place rows lt = λ i other. rows_after_set tables place rows other lt i

-- ---- lists

-- These answers, and then those of the rest.
abbrev pub answered_after : List StatementResult → Result (List StatementResult × PlainDatabase) SqlState → Result (List StatementResult × PlainDatabase) SqlState
answered_after held r = r >>= λ x. Ok (held ++ x.0, x.1)

one_more : (held : List StatementResult) (a : StatementResult) (r : Result (List StatementResult × PlainDatabase) SqlState) → answered_after held (r >>= λ y. Ok (a ∷ y.0, y.1)) ≡ answered_after (held ++ a ∷ []) r
one_more held a (Ok y) = ap (λ l. Ok (l, y.1)) (sym (append_assoc held (a ∷ []) y.0))
one_more held a (Err s) = refl

pub list_more : (c : Contents) (gateway : List ℕ) (list : List RowStatement) (i : ℕ) (s : RowStatement) (before after : PlainDatabase) (held : List StatementResult) (a : StatementResult) → i < length list → s ≡ get_or list i s
    → exec_statement c gateway s before ≡ Ok (a, after) → answered_after held (exec_list c gateway (drop i list) before) ≡ answered_after (held ++ a ∷ []) (exec_list c gateway (drop (i + 1) list) after)
unfolding exec_list
list_more c gateway list i s before after held a lt at e =
    ap (λ l. answered_after held (exec_list c gateway l before)) (drop_more list i s lt ∙ ap (λ x. x ∷ drop (i + 1) list) (sym at))
    ∙ ap (λ r. answered_after held (r >>= λ x. exec_list c gateway (drop (i + 1) list) x.1 >>= λ y. Ok (x.0 ∷ y.0, y.1))) e
    ∙ one_more held a (exec_list c gateway (drop (i + 1) list) after)

pub list_stops : (c : Contents) (gateway : List ℕ) (list : List RowStatement) (i : ℕ) (s : RowStatement) (before : PlainDatabase) (held : List StatementResult) (state : SqlState) → i < length list → s ≡ get_or list i s
    → exec_statement c gateway s before ≡ Err state → answered_after held (exec_list c gateway (drop i list) before) ≡ Err state
unfolding exec_list
list_stops c gateway list i s before held state lt at e =
    ap (λ l. answered_after held (exec_list c gateway l before)) (drop_more list i s lt ∙ ap (λ x. x ∷ drop (i + 1) list) (sym at))
    ∙ ap (λ r. answered_after held (r >>= λ x. exec_list c gateway (drop (i + 1) list) x.1 >>= λ y. Ok (x.0 ∷ y.0, y.1))) e

pub list_ends : (c : Contents) (gateway : List ℕ) (list : List RowStatement) (i : ℕ) (d : PlainDatabase) (held : List StatementResult) → length list ≤ i → answered_after held (exec_list c gateway (drop i list) d) ≡ Ok (held, d)
unfolding exec_list
list_ends c gateway list i d held le = ap (λ l. answered_after held (exec_list c gateway l d)) (drop_all i list le) ∙ ap (λ l. Ok (l, d)) (append-nil held)

-- A statement with a fault ends the list.
pub list_ends_early : (c : Contents) (gateway : List ℕ) (list : List RowStatement) (i : ℕ) (s : RowStatement) (before : PlainDatabase) (held : List StatementResult) (stop : Stop) (whole : Result (List StatementResult × PlainDatabase) SqlState) → i < length list → s ≡ get_or list i s
    → IsStopOf (exec_statement c gateway s before) stop → whole ≡ answered_after held (exec_list c gateway (drop i list) before) → IsStopOf whole stop
list_ends_early c gateway list i s before held (stops.State state) whole lt at e so_far = so_far ∙ list_stops c gateway list i s before held state lt at e
list_ends_early c gateway list i s before held stops.Memory whole lt at e so_far = tt

-- ---- statements

abbrev on_rows_of : Named → List ℕ → RowStatement → List (List Datum) → Result (StatementResult × List (List Datum)) SqlState
on_rows_of n gateway s rows = unless (check_fault n.table n.database s) (on_rows n gateway s rows)

-- A statement that names no table.
pub names_no_table : (c : Contents) (gateway : List ℕ) (s : RowStatement) (d : PlainDatabase) → named_table c (table_name s) ≡ None → exec_statement c gateway s d ≡ Err S42P01
unfolding exec_statement
names_no_table c gateway s d e = ap (λ o. option_map_or (on_table gateway s d) o (Err S42P01)) e

-- A statement on the rows of the table that it names.
pub statement_ok : (c : Contents) (gateway : List ℕ) (s : RowStatement) (d : PlainDatabase) (n : Named) (rows after : List (List Datum)) (a : StatementResult) → named_table c (table_name s) ≡ Some n → rows ≡ d n.place
    → on_rows_of n gateway s rows ≡ Ok (a, after) → exec_statement c gateway s d ≡ Ok (a, with_rows d n.place after)
unfolding exec_statement
statement_ok c gateway s d n rows after a e at given =
    ap (λ o. option_map_or (on_table gateway s d) o (Err S42P01)) e
    ∙ ap (λ r. r >>= λ x. Ok (x.0, with_rows d n.place x.1)) (ap (on_rows_of n gateway s) (sym at) ∙ given)

pub statement_stops : (c : Contents) (gateway : List ℕ) (s : RowStatement) (d : PlainDatabase) (n : Named) (rows : List (List Datum)) (stop : Stop) → named_table c (table_name s) ≡ Some n → rows ≡ d n.place
    → Answers (on_rows_of n gateway s rows) (Err stop) → IsStopOf (exec_statement c gateway s d) stop
unfolding exec_statement
statement_stops c gateway s d n rows (stops.State state) e at given =
    ap (λ o. option_map_or (on_table gateway s d) o (Err S42P01)) e
    ∙ ap (λ r. r >>= λ x. Ok (x.0, with_rows d n.place x.1)) (ap (on_rows_of n gateway s) (sym at) ∙ given)
statement_stops c gateway s d n rows stops.Memory e at given = tt
