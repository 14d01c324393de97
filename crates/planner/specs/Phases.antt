-- What is left of a statement at work, as evaluations over what is known. (This project's profile.)
use Rattle.std.specs.Prelude.{◌≡◌, ℕ, ◌≤◌, Bool, true, false, ◌||◌, if◌then◌else◌, ⊤, List, [], ◌++◌, drop, filter, flat_map, length, Some, None, IfSome, Contains}
use Rattle.std.specs.List.{AllByRecursion, list_any}
use Rattle.std.specs.Option.{option_map_or}
use Rattle.mr_base.specs.declared.results.Verb.TheVariants as verbs
use Rattle.mr_base.specs.declared.states.SqlState.TheVariants.{S23505, S42P01}
use Rattle.region_sql.specs.declared.row_statements.RowStatement.{RowStatement}
use Rattle.region_sql.specs.declared.row_statements.RowStatement.TheVariants.{Insert, Select, Update, Delete}
use Rattle.region_sql.specs.declared.row_statements.Term.{Term}
use Rattle.descriptors.specs.declared.table.Table.{Table}
use Rattle.descriptors.specs.Contents.{Contents}
use Rattle.row_locality.specs.Decoding.{IsRegionFor}
use Rattle.row_locality.specs.Pairs.{put_all}
use Rattle.row_locality.specs.Plain.{Layout, Partition, IsRowOf, regions_of}
use Rattle.sql_eval.specs.Evaluation.{KeyedRow, Outcome, rows_in, rows_of, has_pair, followed_answers, matched_rows, meets_other, if_free, removals, additions, partitions_of, checked_outcome}
use Rattle.sql_eval.specs.Execution.{Named, named_table, table_name, count_answer, rows_answer}
use Rattle.sql_eval.specs.Faults.{check_fault}
use Rattle.sql_eval.specs.Lookups.{changed_row_lookups}
use Rattle.sql_eval.specs.Reads.{Reads}
use Rattle.sql_eval.specs.RowWords.{matches, changed_rows, shown_rows}
use Rattle.sql_eval.specs.Search.{Evaluation, gives, faults, ◌>>=◌, followed_by, of_result, Lookup, Answer, search}
use Rattle.planner.specs.declared.phases.IndexSearch.{IndexSearch}
use Rattle.planner.specs.declared.phases.RowScan.{RowScan}
use Rattle.planner.specs.declared.phases.UniqueCheck.{UniqueCheck}
use Rattle.planner.specs.declared.phases.Phase.{Phase}
use Rattle.planner.specs.declared.phases.Phase.TheVariants as phases

-- ---- the parts of a statement

-- The terms by which a statement finds its rows.
abbrev pub terms_of : RowStatement → List Term
terms_of (Insert table names literals) = []
terms_of (Select table wanted terms) = terms
terms_of (Update table targets terms) = terms
terms_of (Delete table terms) = terms

abbrev pub is_update : RowStatement → Bool
is_update (Insert table names literals) = false
is_update (Select table wanted terms) = false
is_update (Update table targets terms) = true
is_update (Delete table terms) = false

-- A statement that finds rows.
abbrev pub FindsRows : RowStatement → Type 0
FindsRows (Insert table names literals) = ⊥
FindsRows (Select table wanted terms) = ⊤
FindsRows (Update table targets terms) = ⊤
FindsRows (Delete table terms) = ⊤

-- An evaluation behind which one more search may follow, or none.
abbrev pub followed_if : {A : Type 0} → Bool → Evaluation A → Evaluation A
followed_if true e = followed_by 1 e
followed_if false e = e

-- What a statement comes to with the rows that it found. (An INSERT finds none.)
abbrev pub found_outcome : Layout → Reads → Named → RowStatement → List KeyedRow → Evaluation Outcome
found_outcome l reads n (Insert table names literals) old =
    gives (record { answer = count_answer verbs.Insert 0; writes = [] })
found_outcome l reads n (Select table wanted terms) old =
    gives (record { answer = rows_answer (shown_rows n.table wanted (rows_of old)); writes = [] })
found_outcome l reads n (Update table targets terms) old =
    of_result (changed_rows n.table targets (rows_of old)) >>= λ new.
    if_free reads n.table old (changed_row_lookups n.table (partitions_of l n) (rows_of old) new) new >>= λ _.
    gives (record {
      answer = count_answer verbs.Update (length new);
      writes = removals l n (rows_of old) ++ additions l n new;
    })
found_outcome l reads n (Delete table terms) old =
    gives (record { answer = count_answer verbs.Delete (length old); writes = removals l n (rows_of old) })

-- ---- what is left of a phase

-- The rows that match, by an index in which the first look-ups met no pair.
abbrev pub rest_of_search : Reads → Table → List Term → IndexSearch → Evaluation (List KeyedRow)
rest_of_search reads t terms w =
    followed_by 1 (search reads has_pair (drop w.passed w.lookups)) >>= λ first.
    followed_answers reads t (Some (w.index, [])) first >>= λ answers.
    gives (matched_rows t terms answers)

-- The rows that match among those of more answers, put to others.
abbrev pub scanned_rows : Table → List Term → List KeyedRow → List Answer → List KeyedRow
scanned_rows t terms rows answers = filter (λ x. matches t terms x.1) (put_all (flat_map (rows_in t) answers) rows)

-- The rows that match, of which those of the first look-ups were read.
abbrev pub rest_of_scan : Reads → Table → List Term → RowScan → Evaluation (List KeyedRow)
rest_of_scan reads t terms w =
    followed_if w.is_first (search reads (λ a. false) (drop w.passed w.lookups)) >>= λ answers.
    gives (scanned_rows t terms w.rows answers)

-- A statement whose new rows meet no other one in the first look-ups.
abbrev pub rest_of_check : Reads → UniqueCheck → Evaluation Outcome
rest_of_check reads c =
    search reads (meets_other c.replaced) (drop c.passed c.lookups) >>= λ answers.
    (if list_any (meets_other c.replaced) answers || c.has_twins then faults S23505 else gives c.outcome)

-- ---- what is left of a statement

abbrev pub rest_of_table : Layout → List ℕ → Reads → RowStatement → Phase → Named → Evaluation Outcome
rest_of_table l gateway reads s phases.Ready n = checked_outcome l gateway reads s n
rest_of_table l gateway reads s (phases.Searching w) n =
    followed_if (is_update s) (rest_of_search reads n.table (terms_of s) w) >>= λ old. found_outcome l reads n s old
rest_of_table l gateway reads s (phases.Scanning w) n =
    followed_if (is_update s) (rest_of_scan reads n.table (terms_of s) w) >>= λ old. found_outcome l reads n s old
rest_of_table l gateway reads s (phases.Checking c) n = rest_of_check reads c

abbrev pub rest_of_statement : Layout → List ℕ → Reads → RowStatement → Phase → Evaluation Outcome
rest_of_statement l gateway reads s phase =
    option_map_or (rest_of_table l gateway reads s phase) (named_table l.catalog (table_name s)) (faults S42P01)

-- ---- phases that may be

-- A partition in which rows of a table may live.
pub record IsPartitionFor (c : Contents) (t : Table) (p : Partition) : Type 0 where
  pub region : IsRegionFor t p.region
  pub lives : IfSome p.region (Contains (regions_of c t))

abbrev pub IsLookupFor : Contents → Table → Lookup → Type 0
IsLookupFor c t x = IsPartitionFor c t x.partition

-- Each of these rows may stand in the table.
abbrev pub AreKeyedRowsOf : Contents → Table → List KeyedRow → Type 0
AreKeyedRowsOf c t rows = AllByRecursion (λ x. IsRowOf c t x.1) rows

pub record IsSoundSearch (c : Contents) (t : Table) (w : IndexSearch) : Type 0 where
  pub index : w.index ≤ length t.unique
  pub of_index : AllByRecursion (λ x. x.index ≡ w.index) w.lookups
  pub lookups : AllByRecursion (IsLookupFor c t) w.lookups

pub record IsSoundScan (c : Contents) (t : Table) (w : RowScan) : Type 0 where
  pub lookups : AllByRecursion (IsLookupFor c t) w.lookups
  pub rows : AreKeyedRowsOf c t w.rows

-- A statement of this table that finds rows and has no fault of its own.
pub record MayFind (n : Named) (s : RowStatement) : Type 0 where
  pub finds : FindsRows s
  pub checked : check_fault n.table n.database s ≡ None

abbrev pub IsSoundPhase : Contents → RowStatement → Phase → Named → Type 0
IsSoundPhase c s phases.Ready n = ⊤
IsSoundPhase c s (phases.Searching w) n = MayFind n s × IsSoundSearch c n.table w
IsSoundPhase c s (phases.Scanning w) n = MayFind n s × IsSoundScan c n.table w
IsSoundPhase c s (phases.Checking check) n = ⊤

-- Something of the statement was done.
abbrev pub IsAtWork : Phase → Type 0
IsAtWork phases.Ready = ⊥
IsAtWork (phases.Searching w) = ⊤
IsAtWork (phases.Scanning w) = ⊤
IsAtWork (phases.Checking check) = ⊤

-- The phase may be one of the statement.
abbrev pub IsPhaseOf : Contents → RowStatement → Phase → Type 0
IsPhaseOf c s phase = IfSome (named_table c (table_name s)) (IsSoundPhase c s phase)
