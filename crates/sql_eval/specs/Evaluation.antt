-- What a list of statements comes to over what is known of ranges: its answers and writes, a fault, or the
-- span that it needs next. Source: this project's profile.
use Rattle.std.specs.Prelude.{ℕ, ◌==◌, ◌*◌, Bool, false, not, ◌||◌, if◌then◌else◌, List, [], ◌∷◌, ◌++◌, length, map, filter, flat_map, filter_map, slice_get, Option, Some, None, option_map, option_and_then, option_to_list, is_none, Result}
use Rattle.std.specs.FinMap.Entries.{find}
use Rattle.std.specs.List.{list_any}
use Rattle.std.specs.Option.{option_map_or}
use Rattle.mr_base.specs.declared.results.StatementResult.{StatementResult}
use Rattle.mr_base.specs.declared.results.Verb.TheVariants as verbs
use Rattle.mr_base.specs.declared.rows.Datum.{Datum}
use Rattle.mr_base.specs.declared.states.SqlState.{SqlState}
use Rattle.mr_base.specs.declared.states.SqlState.TheVariants.{S23505, S42P01}
use Rattle.region_sql.specs.declared.row_statements.RowStatement.{RowStatement}
use Rattle.region_sql.specs.declared.row_statements.RowStatement.TheVariants.{Insert, Select, Update, Delete}
use Rattle.region_sql.specs.declared.row_statements.Term.{Term}
use Rattle.descriptors.specs.declared.table.Table.{Table}
use Rattle.row_locality.specs.Pairs.{KeyValue, bytes_cmp, pairs_of, put_all}
use Rattle.row_locality.specs.Plain.{Layout, Partition, partitions, range_of}
use Rattle.row_locality.specs.Reading.{row_of, primary_of}
use Rattle.row_locality.specs.Values.{is_small}
use Rattle.sql_eval.specs.RowWords.{matches, default_region, made_rows, changed_rows, shown_rows, has_twins}
use Rattle.sql_eval.specs.Faults.{check_fault}
use Rattle.sql_eval.specs.Execution.{Named, named_table, table_name, count_answer, rows_answer}
use Rattle.sql_eval.specs.Reads.{Reads}
use Rattle.sql_eval.specs.OwnWrites.{OwnWrite, OwnWrites, removal, addition, with_writes, reads_through}
use Rattle.sql_eval.specs.Search.{Evaluation, gives, faults, ◌>>=◌, followed_by, of_result, Lookup, Answer, search}
use Rattle.sql_eval.specs.Lookups.{index_for, searched_partitions, row_lookups, primary_lookup, new_row_lookups, changed_row_lookups}

-- ---- the rows that match

-- A row with its primary key.
abbrev pub KeyedRow : Type 0
KeyedRow = List ℕ × List Datum

abbrev pub if_small : Table → List Datum → Option (List Datum)
if_small t row = if is_small t row then Some row else None

-- The row of a pair. A pair that is of no row, or of one that is too long to be written, counts as none.
abbrev pub keyed_row : Table → Option (List ℕ) → KeyValue → Option KeyedRow
keyed_row t region p = option_map (λ row. (p.0, row)) (option_and_then (if_small t) (row_of t region p))

abbrev pub rows_in : Table → Answer → List KeyedRow
rows_in t a = filter_map (keyed_row t a.0.partition.region) a.1

-- The rows that match among the answers of a search, in the order of their keys.
unfoldable pub matched_rows : Table → List Term → List Answer → List KeyedRow
matched_rows t terms answers = filter (λ x. matches t terms x.1) (put_all (flat_map (rows_in t) answers) [])

abbrev pub has_pair : Answer → Bool
has_pair a = not (length a.1 == 0)

-- A search by an index ends at the first answer with a pair. All rows are read to the end.
abbrev pub ends_at : Option (ℕ × List Datum) → Answer → Bool
ends_at None a = false
ends_at (Some x) a = has_pair a

-- The primary key to which the first pair of an answer leads, in its partition.
abbrev pub led_to : Table → ℕ → Answer → Option Lookup
led_to t number a = option_map (λ key. primary_lookup key a.0.partition) (option_and_then (primary_of t number) (slice_get a.1 0))

abbrev pub at_primary : Table → ℕ → List Answer → List Lookup
at_primary t number answers = flat_map (λ a. option_to_list (led_to t number a)) answers

-- A search by a secondary index goes on to the row itself.
abbrev pub followed_answers : Reads → Table → Option (ℕ × List Datum) → List Answer → Evaluation (List Answer)
followed_answers reads t None answers = gives answers
followed_answers reads t (Some x) answers =
    if x.0 == 0 then gives answers else search reads (λ a. false) (at_primary t x.0 answers)

-- The rows that match, by at most two searches.
unfoldable pub found_rows : Reads → Table → List ℕ → List Partition → List Term → Evaluation (List KeyedRow)
found_rows reads t gateway ps terms =
    let by = index_for t terms in
    followed_by 1 (search reads (ends_at by) (row_lookups gateway by (searched_partitions terms ps))) >>= λ first.
    followed_answers reads t by first >>= λ answers.
    gives (matched_rows t terms answers)

-- ---- rows that must not be there

-- The primary key that a pair of an index names: its key, or in a secondary index its value.
abbrev pub named_by : Lookup → KeyValue → List ℕ
named_by l p = if l.index == 0 then p.0 else p.1

-- Whether an answer holds a pair of a row that the statement doesn't replace.
abbrev pub meets_other : List KeyedRow → Answer → Bool
meets_other replaced a = list_any (λ p. is_none (find bytes_cmp (named_by a.0 p) replaced)) a.1

-- 23505: a look-up met another row, or two of the new rows have an equal primary key or UNIQUE value.
unfoldable pub if_free : Reads → Table → List KeyedRow → List Lookup → List (List Datum) → Evaluation (Unit {0})
if_free reads t replaced lookups new =
    search reads (meets_other replaced) lookups >>= λ answers.
    (if list_any (meets_other replaced) answers || has_twins t new then faults S23505 else gives tt)

-- ---- statements

-- What a statement comes to: its answer, and its writes.
pub record Outcome : Type 0 where
  pub answer : StatementResult
  pub writes : List OwnWrite

abbrev pub rows_of : List KeyedRow → List (List Datum)
rows_of keyed = map (λ x. x.1) keyed

abbrev pub removals_of : Layout → Named → List Datum → List OwnWrite
removals_of l n row = map (removal (range_of l n.place n.table row)) (pairs_of n.table row)

abbrev pub additions_of : Layout → Named → List Datum → List OwnWrite
additions_of l n row = map (addition (range_of l n.place n.table row)) (pairs_of n.table row)

abbrev pub removals : Layout → Named → List (List Datum) → List OwnWrite
removals l n rows = flat_map (removals_of l n) rows

abbrev pub additions : Layout → Named → List (List Datum) → List OwnWrite
additions l n rows = flat_map (additions_of l n) rows

-- The partitions of the table that a statement names.
abbrev pub partitions_of : Layout → Named → List Partition
partitions_of l n = partitions l n.place n.table

-- A statement without a fault of its own. The pairs of the rows that go are removed, then those of the rows
-- that come are added.
unfoldable pub table_outcome : Layout → List ℕ → Reads → Named → RowStatement → Evaluation Outcome
table_outcome l gateway reads n (Insert table names literals) =
    of_result (made_rows n.table (default_region n.database gateway) names literals) >>= λ made.
    if_free reads n.table [] (new_row_lookups n.table (partitions_of l n) made) made >>= λ _.
    gives (record { answer = count_answer verbs.Insert (length made); writes = additions l n made })
table_outcome l gateway reads n (Select table wanted terms) =
    found_rows reads n.table gateway (partitions_of l n) terms >>= λ old.
    gives (record { answer = rows_answer (shown_rows n.table wanted (rows_of old)); writes = [] })
table_outcome l gateway reads n (Update table targets terms) =
    followed_by 1 (found_rows reads n.table gateway (partitions_of l n) terms) >>= λ old.
    of_result (changed_rows n.table targets (rows_of old)) >>= λ new.
    if_free reads n.table old (changed_row_lookups n.table (partitions_of l n) (rows_of old) new) new >>= λ _.
    gives (record { answer = count_answer verbs.Update (length new); writes = removals l n (rows_of old) ++ additions l n new })
table_outcome l gateway reads n (Delete table terms) =
    found_rows reads n.table gateway (partitions_of l n) terms >>= λ old.
    gives (record { answer = count_answer verbs.Delete (length old); writes = removals l n (rows_of old) })

abbrev pub unless : {A : Type 0} → Option SqlState → Evaluation A → Evaluation A
unless None e = e
unless (Some code) e = faults code

abbrev pub checked_outcome : Layout → List ℕ → Reads → RowStatement → Named → Evaluation Outcome
checked_outcome l gateway reads s n = unless (check_fault n.table n.database s) (table_outcome l gateway reads n s)

-- One statement. A fault that needs no row comes before any read.
unfoldable pub statement_outcome : Layout → List ℕ → Reads → RowStatement → Evaluation Outcome
statement_outcome l gateway reads s =
    option_map_or (checked_outcome l gateway reads s) (named_table l.catalog (table_name s)) (faults S42P01)

-- ---- lists

-- What a list comes to: the answers of its statements, and all of its writes.
pub record ListOutcome : Type 0 where
  pub answers : List StatementResult
  pub own : OwnWrites

-- Statements one after the other, each through the writes of those before it. A statement has at most three
-- searches.
unfoldable pub list_outcome : Layout → List ℕ → Reads → OwnWrites → List RowStatement → Evaluation ListOutcome
list_outcome l gateway reads own [] = gives (record { answers = []; own = own })
list_outcome l gateway reads own (s ∷ ss) =
    followed_by (3 * length ss) (statement_outcome l gateway (reads_through own reads) s) >>= λ x.
    list_outcome l gateway reads (with_writes own x.writes) ss >>= λ y.
    gives (record { answers = x.answer ∷ y.answers; own = y.own })

-- Where and how a list runs: the tables and their ranges, the gateway's region, and the list as it was read.
pub record Setting : Type 0 where
  pub layout : Layout
  pub region : List ℕ
  pub list : Result (List RowStatement) SqlState

-- The list of a setting over what is known.
unfoldable pub evaluation : Setting → Reads → Evaluation ListOutcome
evaluation s reads = of_result s.list >>= λ list. list_outcome s.layout s.region reads [] list
