-- Which spans statements and lists need: those of the partitions of their tables that aren't known.
use Rattle.std.proofs.Common.{◌≡◌, ℕ, ◌*◌, Bool, true, false, List, [], ◌∷◌, length, refl}
use Rattle.std.specs.Prelude.{◌==◌, ◌||◌, not, if◌then◌else◌, filter, slice_get, Option, Some, None, option_map, option_and_then, Ok}
use Rattle.std.specs.List.{AllByRecursion, enumerate_from, list_any}
use Rattle.std.specs.Option.{option_map_or, option_to_list}
use Rattle.mr_base.specs.declared.rows.Datum.{Datum}
use Rattle.mr_base.specs.declared.spans.Ask.{Ask}
use Rattle.mr_base.specs.declared.spans.Span.{Span}
use Rattle.mr_base.specs.declared.states.SqlState.{SqlState}
use Rattle.mr_base.specs.declared.states.SqlState.TheVariants.{S23505, S42P01}
use Rattle.region_sql.specs.declared.row_statements.RowStatement.{RowStatement}
use Rattle.region_sql.specs.declared.row_statements.RowStatement.TheVariants.{Insert, Select, Update, Delete}
use Rattle.region_sql.specs.declared.row_statements.Term.{Term}
use Rattle.descriptors.specs.declared.table.Table.{Table}
use Rattle.row_locality.specs.Pairs.{KeyValue}
use Rattle.row_locality.specs.Plain.{Layout, Partition}
use Rattle.row_locality.specs.Reading.{primary_of}
use Rattle.row_locality.specs.Rows.{indexes, region_of}
use Rattle.sql_eval.specs.Evaluation.{KeyedRow, ends_at, led_to, at_primary, followed_answers, found_rows, if_free, meets_other, table_outcome, Outcome, unless, checked_outcome, statement_outcome, list_outcome, Setting, evaluation, partitions_of, rows_of}
use Rattle.sql_eval.specs.Execution.{Named, named_table, table_name}
use Rattle.sql_eval.specs.Faults.{check_fault}
use Rattle.sql_eval.specs.Lookups.{index_for, is_in_region, near_first, searched_partitions, fixed_region, key_lookup, primary_lookup, whole_partition, row_lookups, own_first, index_lookups, key_lookups, new_row_lookups, changed_indexes, changed_row_lookups}
use Rattle.sql_eval.specs.OwnWrites.{OwnWrites, with_writes, reads_through, patched_pairs, values_written}
use Rattle.sql_eval.specs.Reads.{Reads}
use Rattle.sql_eval.specs.RowWords.{default_region, made_rows, changed_rows, has_twins}
use Rattle.sql_eval.specs.Search.{Evaluation, gives, faults, followed_by, Lookup, Answer, search as searched}
use Rattle.answer_laws.proofs.Evaluations.{Needs, gives_followed, needs_followed, needs_given, needs_bind, needs_result}
use Rattle.answer_laws.proofs.Lists.{each, each_append, each_filter, each_map, each_flat_map, each_weaker}
use Rattle.answer_laws.proofs.Searches.{MayNeed, search_needs, search_gives, needs_if}

-- ---- look-ups are in partitions

-- a look-up in such a partition
abbrev pub IsIn : (Partition → Type 0) → Lookup → Type 0
IsIn Q l = Q l.partition

near_in : (Q : Partition → Type 0) (region : List ℕ) (ps : List Partition) → AllByRecursion Q ps → AllByRecursion Q (near_first region ps)
near_in Q region ps h = each_append Q _ _ (each_filter Q (is_in_region region) ps h) (each_filter Q (λ p. not (is_in_region region p)) ps h)

searched_by : (Q : Partition → Type 0) (region : Option (List ℕ)) (ps : List Partition) → AllByRecursion Q ps
    → AllByRecursion Q (option_map_or (λ r. filter (is_in_region r) ps) region ps)
searched_by Q None ps h = h
searched_by Q (Some region) ps h = each_filter Q (is_in_region region) ps h

searched_in : (Q : Partition → Type 0) (terms : List Term) (ps : List Partition) → AllByRecursion Q ps → AllByRecursion Q (searched_partitions terms ps)
searched_in Q terms ps h = searched_by Q (fixed_region terms) ps h

rows_in : (Q : Partition → Type 0) (gateway : List ℕ) (by : Option (ℕ × List Datum)) (ps : List Partition) → AllByRecursion Q ps
    → AllByRecursion (IsIn Q) (row_lookups gateway by ps)
rows_in Q gateway None ps h = each_map (IsIn Q) whole_partition ps h
rows_in Q gateway (Some x) ps h = each_map (IsIn Q) (key_lookup x.0 x.1) (near_first gateway ps) (near_in Q gateway ps h)

led_in : (Q : Partition → Type 0) (a : Answer) (o : Option (List ℕ)) → Q a.0.partition
    → AllByRecursion (IsIn Q) (option_to_list (option_map (λ key. primary_lookup key a.0.partition) o))
led_in Q a None h = tt
led_in Q a (Some key) h = (h, tt)

pub at_primary_in : (Q : Partition → Type 0) (t : Table) (number : ℕ) (answers : List Answer) → AllByRecursion (λ a. IsIn Q a.0) answers
    → AllByRecursion (IsIn Q) (at_primary t number answers)
at_primary_in Q t number answers h =
    each_flat_map (IsIn Q) (λ a. option_to_list (led_to t number a)) answers
    (each_weaker (λ a. IsIn Q a.0) _ (λ a k. led_in Q a (option_and_then (primary_of t number) (slice_get a.1 0)) k) answers h)

own_in : (Q : Partition → Type 0) (region : Option (List ℕ)) (ps : List Partition) → AllByRecursion Q ps → AllByRecursion Q (own_first region ps)
own_in Q None ps h = h
own_in Q (Some region) ps h = near_in Q region ps h

keys_in : (Q : Partition → Type 0) (t : Table) (ps : List Partition) (xs : List (ℕ × List ℕ)) (row : List Datum) → AllByRecursion Q ps
    → AllByRecursion (IsIn Q) (key_lookups t ps xs row)
keys_in Q t ps xs row h =
    each_flat_map (IsIn Q) (index_lookups t ps row) xs
    (each _ (λ x. each_map (IsIn Q) _ (own_first (region_of t row) ps) (own_in Q (region_of t row) ps h)) xs)

new_rows_in : (Q : Partition → Type 0) (t : Table) (ps : List Partition) (rows : List (List Datum)) → AllByRecursion Q ps
    → AllByRecursion (IsIn Q) (new_row_lookups t ps rows)
unfolding new_row_lookups
new_rows_in Q t ps rows h =
    each_flat_map (IsIn Q) (key_lookups t ps (enumerate_from 0 (indexes t))) rows (each _ (λ row. keys_in Q t ps (enumerate_from 0 (indexes t)) row h) rows)

changed_rows_in : (Q : Partition → Type 0) (t : Table) (ps : List Partition) (olds news : List (List Datum)) → AllByRecursion Q ps
    → AllByRecursion (IsIn Q) (changed_row_lookups t ps olds news)
unfolding changed_row_lookups
changed_rows_in Q t ps [] news h = tt
changed_rows_in Q t ps (old ∷ olds) [] h = tt
changed_rows_in Q t ps (old ∷ olds) (new ∷ news) h =
    each_append (IsIn Q) _ _ (keys_in Q t ps (changed_indexes t old new) new h) (changed_rows_in Q t ps olds news h)

-- ---- what statements need

-- spans of a partition that may be needed where they aren't known
abbrev pub IsOpen : Reads → (Ask → ℕ → Type 0) → Partition → Type 0
IsOpen reads P p = (index : ℕ) (span : Span) → MayNeed reads P (record { partition = p; index = index; span = span })

open_lookups : (reads : Reads) (P : Ask → ℕ → Type 0) (ls : List Lookup) → AllByRecursion (IsIn (IsOpen reads P)) ls → AllByRecursion (MayNeed reads P) ls
open_lookups reads P ls h = each_weaker (IsIn (IsOpen reads P)) (MayNeed reads P) (λ l k. k l.index l.span) ls h

followed_needs : (reads : Reads) (P : Ask → ℕ → Type 0) (t : Table) (by : Option (ℕ × List Datum)) (answers : List Answer)
    → AllByRecursion (λ a. IsIn (IsOpen reads P) a.0) answers → Needs P (followed_answers reads t by answers)
followed_needs reads P t None answers h = tt
followed_needs reads P t (Some x) answers h =
    needs_if P (x.0 == 0) answers _
    (search_needs reads P (λ a. false) (at_primary t x.0 answers) (open_lookups reads P _ (at_primary_in (IsOpen reads P) t x.0 answers h)))

found_needs : (reads : Reads) (P : Ask → ℕ → Type 0) (t : Table) (gateway : List ℕ) (ps : List Partition) (terms : List Term)
    → AllByRecursion (IsOpen reads P) ps → Needs P (found_rows reads t gateway ps terms)
unfolding found_rows
found_needs reads P t gateway ps terms h =
    let by = index_for t terms in
    let ls = row_lookups gateway by (searched_partitions terms ps) in
    let k = rows_in (IsOpen reads P) gateway by (searched_partitions terms ps) (searched_in (IsOpen reads P) terms ps h) in
    let first = searched reads (ends_at by) ls in
    needs_given P (AllByRecursion (λ a. IsIn (IsOpen reads P) a.0)) (followed_by 1 first) _
    (needs_followed P 1 first (search_needs reads P (ends_at by) ls (open_lookups reads P ls k)))
    (gives_followed (AllByRecursion (λ a. IsIn (IsOpen reads P) a.0)) 1 first (search_gives reads (IsIn (IsOpen reads P)) (ends_at by) ls k))
    (λ answers m. needs_bind P _ _ (followed_needs reads P t by answers m) (λ more. tt))

choice_needs : (P : Ask → ℕ → Type 0) (b : Bool) (code : SqlState) → Needs {A = Unit {0}} P (if b then faults code else gives tt)
choice_needs P true code = tt
choice_needs P false code = tt

free_needs : (reads : Reads) (P : Ask → ℕ → Type 0) (t : Table) (old : List KeyedRow) (ls : List Lookup) (new : List (List Datum))
    → AllByRecursion (IsIn (IsOpen reads P)) ls → Needs P (if_free reads t old ls new)
unfolding if_free
free_needs reads P t old ls new h =
    needs_bind P _ _ (search_needs reads P (meets_other old) ls (open_lookups reads P ls h))
    (λ answers. choice_needs P (list_any (meets_other old) answers || has_twins t new) S23505)

table_needs : (l : Layout) (gateway : List ℕ) (reads : Reads) (P : Ask → ℕ → Type 0) (n : Named) (s : RowStatement)
    → AllByRecursion (IsOpen reads P) (partitions_of l n) → Needs P (table_outcome l gateway reads n s)
unfolding table_outcome
table_needs l gateway reads P n (Insert table names literals) h =
    needs_result {B = Outcome} P (made_rows n.table (default_region n.database gateway) names literals) _
    (λ made _. needs_bind {B = Outcome} P (if_free reads n.table [] (new_row_lookups n.table (partitions_of l n) made) made) _
    (free_needs reads P n.table [] (new_row_lookups n.table (partitions_of l n) made) made (new_rows_in (IsOpen reads P) n.table (partitions_of l n) made h)) (λ _. tt))
table_needs l gateway reads P n (Select table wanted terms) h =
    needs_bind P _ _ (found_needs reads P n.table gateway (partitions_of l n) terms h) (λ old. tt)
table_needs l gateway reads P n (Update table targets terms) h =
    needs_bind P _ _ (needs_followed P 1 _ (found_needs reads P n.table gateway (partitions_of l n) terms h))
    (λ old. needs_result {B = Outcome} P (changed_rows n.table targets (rows_of old)) _
    (λ new _. needs_bind {B = Outcome} P (if_free reads n.table old (changed_row_lookups n.table (partitions_of l n) (rows_of old) new) new) _
    (free_needs reads P n.table old (changed_row_lookups n.table (partitions_of l n) (rows_of old) new) new
    (changed_rows_in (IsOpen reads P) n.table (partitions_of l n) (rows_of old) new h)) (λ _. tt)))
table_needs l gateway reads P n (Delete table terms) h =
    needs_bind P _ _ (found_needs reads P n.table gateway (partitions_of l n) terms h) (λ old. tt)

unless_needs : (P : Ask → ℕ → Type 0) (fault : Option SqlState) (e : Evaluation Outcome) → Needs P e → Needs P (unless fault e)
unless_needs P None e h = h
unless_needs P (Some code) e h = tt

-- the partitions of a statement's table are open
abbrev pub AreOpen : Layout → Reads → (Ask → ℕ → Type 0) → RowStatement → Type 0
AreOpen l reads P s = (n : Named) → named_table l.catalog (table_name s) ≡ Some n → AllByRecursion (IsOpen reads P) (partitions_of l n)

on_needs : (l : Layout) (gateway : List ℕ) (reads : Reads) (P : Ask → ℕ → Type 0) (s : RowStatement) (o : Option Named)
    → ((n : Named) → o ≡ Some n → AllByRecursion (IsOpen reads P) (partitions_of l n)) → Needs P (option_map_or (checked_outcome l gateway reads s) o (faults S42P01))
on_needs l gateway reads P s None h = tt
on_needs l gateway reads P s (Some n) h = unless_needs P (check_fault n.table n.database s) _ (table_needs l gateway reads P n s (h n refl))

statement_needs : (l : Layout) (gateway : List ℕ) (reads : Reads) (P : Ask → ℕ → Type 0) (s : RowStatement) → AreOpen l reads P s
    → Needs P (statement_outcome l gateway reads s)
unfolding statement_outcome
statement_needs l gateway reads P s h = on_needs l gateway reads P s (named_table l.catalog (table_name s)) h

-- ---- lists

unmapped : (f : List KeyValue → List KeyValue) (r : Option (List KeyValue)) → option_map f r ≡ None → r ≡ None
unmapped f None e = refl
unmapped f (Some pairs) e = absurd (cc)

-- what isn't known through own writes isn't known
through_none : (own : OwnWrites) (reads : Reads) (ask : Ask) → reads_through own reads ask ≡ None → reads ask ≡ None
unfolding reads_through
through_none own reads ask e = unmapped (patched_pairs (values_written own ask)) (reads ask) e

open_through : (l : Layout) (own : OwnWrites) (reads : Reads) (P : Ask → ℕ → Type 0) (s : RowStatement) → AreOpen l reads P s → AreOpen l (reads_through own reads) P s
open_through l own reads P s h n e =
    each_weaker (IsOpen reads P) (IsOpen (reads_through own reads) P) (λ p k index span m some none. k index span m some (through_none own reads _ none))
    (partitions_of l n) (h n e)

list_needs : (l : Layout) (gateway : List ℕ) (reads : Reads) (P : Ask → ℕ → Type 0) (own : OwnWrites) (ss : List RowStatement)
    → AllByRecursion (AreOpen l reads P) ss → Needs P (list_outcome l gateway reads own ss)
unfolding list_outcome
list_needs l gateway reads P own [] h = tt
list_needs l gateway reads P own (s ∷ ss) h =
    needs_bind P _ _ (needs_followed P (3 * length ss) _ (statement_needs l gateway (reads_through own reads) P s (open_through l own reads P s h.0)))
    (λ x. needs_bind P _ _ (list_needs l gateway reads P (with_writes own x.writes) ss h.1) (λ y. tt))

-- what a setting's list needs
pub evaluation_needs : (s : Setting) (reads : Reads) (P : Ask → ℕ → Type 0)
    → ((list : List RowStatement) → s.list ≡ Ok list → AllByRecursion (AreOpen s.layout reads P) list) → Needs P (evaluation s reads)
unfolding evaluation
evaluation_needs s reads P h = needs_result P s.list _ (λ list e. list_needs s.layout s.region reads P [] list (h list e))
