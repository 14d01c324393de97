-- UPDATE as the check of the rows that it makes of others.
use Rattle.std.proofs.Common.{◌≡◌, Bool, true, false, cond, List, [], ◌∷◌, ◌++◌, filter, refl, sym, ap, subst, ◌∙◌}
use Rattle.std.specs.Prelude.{ℕ, All, Some, None, length, Result, Ok, Err}
use Rattle.std.specs.List.{AllByRecursion, AllZip}
use Rattle.std.proofs.lemmas.List.{length-map}
use Rattle.std.proofs.lemmas.List.Elements.{All-from_recursion, recursion_from_All}
use Rattle.mr_base.specs.declared.results.StatementResult.{StatementResult}
use Rattle.mr_base.specs.declared.results.Verb.TheVariants as verbs
use Rattle.mr_base.specs.declared.rows.Datum.{Datum}
use Rattle.mr_base.specs.declared.states.SqlState.{SqlState}
use Rattle.region_sql.specs.TextLiterals.{IsUtf8Value, TextsAreUtf8}
use Rattle.region_sql.specs.declared.row_statements.RowStatement.{RowStatement}
use Rattle.region_sql.specs.declared.row_statements.RowStatement.TheVariants.{Update}
use Rattle.region_sql.specs.declared.row_statements.Target.{Target}
use Rattle.region_sql.specs.declared.row_statements.Term.{Term}
use Rattle.descriptors.specs.Contents.{Contents}
use Rattle.descriptors.specs.declared.database.Database.{Database}
use Rattle.descriptors.specs.declared.table.Table.{Table}
use Rattle.row_locality.specs.Plain.{IsRowOf, Layout, regions_of}
use Rattle.row_locality.specs.Rows.{all_columns}
use Rattle.sql_eval.specs.Evaluation.{KeyedRow, Outcome, Setting, additions, if_free, partitions_of, removals, rows_of}
use Rattle.sql_eval.specs.Execution.{Named, count_answer, named_table}
use Rattle.sql_eval.specs.Faults.{check_fault, columns_fault, literals_fault, shape_fault, target_value_fault}
use Rattle.sql_eval.specs.Laws.{IsSoundSetting}
use Rattle.sql_eval.specs.Lookups.{changed_row_lookups}
use Rattle.sql_eval.specs.Reads.{Reads}
use Rattle.sql_eval.specs.RowWords.{changed_row, changed_rows, matches}
use Rattle.sql_eval.specs.Search.{Evaluation, faults, gives, ◌>>=◌, of_result, search}
use Rattle.answer_laws.proofs.ChangedRows.{IsTarget, changed_suits}
use Rattle.answer_laws.proofs.ColumnValues.{Suits}
use Rattle.answer_laws.proofs.ExecutedLists.{IsSoundNamed, sound_named}
use Rattle.answer_laws.proofs.FittingRows.{row_suits, suiting_rows}
use Rattle.answer_laws.proofs.KeepsValid.{is_named}
use Rattle.answer_laws.proofs.Lists.{each_filter, each_weaker}
use Rattle.answer_laws.proofs.NoFaults.{first_none, none_faulty}
use Rattle.planner.proofs.InsertLemmas.{check_of, free_is_checked}
use Rattle.planner.specs.Phases.{AreKeyedRowsOf, found_outcome, rest_of_check, scanned_rows}
use Rattle.planner.specs.RowWrites.{unchecked}
use Rattle.planner.specs.declared.phases.UniqueCheck.{UniqueCheck}

abbrev Row : Type 0
Row = List Datum

-- ---- the rows that it finds

-- the rows that match, with their keys or without
matching_rows : (t : Table) (terms : List Term) (rows : List KeyedRow) → filter (matches t terms) (rows_of rows) ≡ rows_of (scanned_rows t terms rows [])
matching_rows t terms [] = refl
matching_rows t terms (x ∷ rows) =
    elim (matches t terms x.1) as (λ b. cond b (x.1 ∷ filter (matches t terms) (rows_of rows)) (filter (matches t terms) (rows_of rows)) ≡ rows_of (cond b (x ∷ scanned_rows t terms rows []) (scanned_rows t terms rows []))) [
      | true ↦ ap (λ l. x.1 ∷ l) (matching_rows t terms rows)
      | false ↦ matching_rows t terms rows
    ]

twice_by : {X : Type 0} (f : X → Bool) (x : X) (xs : List X) (b : Bool) → f x ≡ b → filter f (filter f xs) ≡ filter f xs → filter f (cond b (x ∷ filter f xs) (filter f xs)) ≡ cond b (x ∷ filter f xs) (filter f xs)
twice_by f x xs true e h = ap (λ (b : Bool). cond b (x ∷ filter f (filter f xs)) (filter f (filter f xs))) e ∙ ap (λ l. x ∷ l) h
twice_by f x xs false e h = h

twice : {X : Type 0} (f : X → Bool) (xs : List X) → filter f (filter f xs) ≡ filter f xs
twice f [] = refl
twice f (x ∷ xs) = twice_by f x xs (f x) refl (twice f xs)

-- all of them match
pub all_match : (t : Table) (terms : List Term) (rows found : List KeyedRow) (old : List (List Datum)) → found ≡ scanned_rows t terms rows [] → old ≡ rows_of found
    → filter (matches t terms) old ≡ rows_of (scanned_rows t terms rows [])
all_match t terms rows found old f o =
    ap (filter (matches t terms)) o
    ∙ matching_rows t terms found
    ∙ ap rows_of (ap (filter (λ x. matches t terms x.1)) f ∙ twice (λ x. matches t terms x.1) rows)

each_row : (c : Contents) (t : Table) (rows : List KeyedRow) → AreKeyedRowsOf c t rows → AllByRecursion (IsRowOf c t) (rows_of rows)
each_row c t [] h = tt
each_row c t (x ∷ rows) h = (h.0, each_row c t rows h.1)

pub found_are_rows : (c : Contents) (t : Table) (terms : List Term) (rows : List KeyedRow) (old : List Row) → AreKeyedRowsOf c t rows
    → old ≡ rows_of (scanned_rows t terms rows []) → All (IsRowOf c t) old
found_are_rows c t terms rows old h e =
    subst (All (IsRowOf c t)) (sym e)
    (All-from_recursion (IsRowOf c t) (rows_of (scanned_rows t terms rows [])) (each_row c t (scanned_rows t terms rows []) (each_filter (λ x. IsRowOf c t x.1) (λ x. matches t terms x.1) rows h)))

-- ---- the rows that it makes of them

abbrev AreSuited : Contents → Table → Row → Type 0
AreSuited c t row = AllZip (Suits (regions_of c t)) (all_columns t) row

each_target : (t : Table) (d : Database) (targets : List Target) → AllByRecursion (λ x. IsUtf8Value x.value) targets → AllByRecursion (λ x. target_value_fault t d x ≡ None) targets
    → AllByRecursion (IsTarget t d) targets
each_target t d [] h k = tt
each_target t d (x ∷ xs) h k = ((h.0, k.0), each_target t d xs h.1 k.1)

changed_each : (c : Contents) (n : Named) (table : List ℕ) (targets : List Target) (terms : List Term) (olds changed : List Row) → IsSoundNamed c n
    → TextsAreUtf8 (Update table targets terms) → check_fault n.table n.database (Update table targets terms) ≡ None → AllByRecursion (IsRowOf c n.table) olds
    → changed_rows n.table targets olds ≡ Ok changed → AllByRecursion (IsRowOf c n.table) changed
unfolding check_fault changed_rows
changed_each c n table targets terms olds changed sound u e h m =
    let s : RowStatement = Update table targets terms in
    let rest = (first_none (columns_fault n.table s) _ e).1 in
    let parts = first_none (shape_fault n.table s) (literals_fault n.table n.database s) rest in
    let free = none_faulty (target_value_fault n.table n.database) targets (first_none _ _ parts.1).0 in
    let are : AllByRecursion (IsTarget n.table n.database) targets =
    each_target n.table n.database targets (recursion_from_All (λ (x : Target). IsUtf8Value x.value) targets u.0) free in
    suiting_rows c n.table (changed_row n.table targets) olds changed
    (each_weaker (IsRowOf c n.table) (λ old. AreSuited c n.table (changed_row n.table targets old))
    (λ old r. subst (λ (rs : List (List ℕ)). AllZip (Suits rs) (all_columns n.table) (changed_row n.table targets old)) (sym sound.regions)
    (changed_suits n.table n.database targets old sound.table.table are
    (subst (λ (rs : List (List ℕ)). AllZip (Suits rs) (all_columns n.table) old) sound.regions (row_suits c n.table old sound.table.table r))))
    olds h)
    m

pub changed_are_rows : (s : Setting) (n : Named) (table : List ℕ) (targets : List Target) (terms : List Term) (olds changed : List Row) → IsSoundSetting s
    → named_table s.layout.catalog table ≡ Some n → TextsAreUtf8 (Update table targets terms) → check_fault n.table n.database (Update table targets terms) ≡ None
    → All (IsRowOf s.layout.catalog n.table) olds → changed_rows n.table targets olds ≡ Ok changed → All (IsRowOf s.layout.catalog n.table) changed
changed_are_rows s n table targets terms olds changed sound named' texts checked h e =
    let c = s.layout.catalog in
    All-from_recursion (IsRowOf c n.table) changed
    (changed_each c n table targets terms olds changed (sound_named c n sound.layout.catalog (is_named c table n named')) texts checked (recursion_from_All (IsRowOf c n.table) olds h) e)

-- ---- UPDATE

module _ (l : Layout) (n : Named) (table : List ℕ) (targets : List Target) (terms : List Term) (rows : List KeyedRow) (old : List Row) (o : old ≡ rows_of (scanned_rows n.table terms rows [])) where
  abbrev found : List KeyedRow
  found = scanned_rows n.table terms rows []

  abbrev outcome_by : Reads → List Row → Result (List Row) SqlState → Evaluation Outcome
  outcome_by reads olds result =
      of_result result >>= λ new.
      if_free reads n.table found (changed_row_lookups n.table (partitions_of l n) olds new) new >>= λ _.
      gives (record { answer = count_answer verbs.Update (length new); writes = removals l n olds ++ additions l n new })

  found_by : (reads : Reads) → found_outcome l reads n (Update table targets terms) found ≡ outcome_by reads old (changed_rows n.table targets old)
  found_by reads = ap (λ (olds : List Row). outcome_by reads olds (changed_rows n.table targets olds)) (sym o)

  pub update_faulty : (code : SqlState) → changed_rows n.table targets old ≡ Err code → (reads : Reads)
      → found_outcome l reads n (Update table targets terms) found ≡ faults code
  update_faulty code e = λ reads. found_by reads ∙ ap (outcome_by reads old) e

  pub update_checked : (new : List Row) (answer : StatementResult) (replaced : List KeyedRow) (check : UniqueCheck) → changed_rows n.table targets old ≡ Ok new
      → answer ≡ count_answer verbs.Update (length new) → replaced ≡ found
      → check ≡ check_of n.table replaced (changed_row_lookups n.table (partitions_of l n) old new) new (record { answer = answer; writes = removals l n old ++ additions l n new })
      → (reads : Reads) → found_outcome l reads n (Update table targets terms) found ≡ rest_of_check reads check
  update_checked new answer replaced check e a f k = λ reads.
      let lookups = changed_row_lookups n.table (partitions_of l n) old new in
      let outcome : StatementResult → Outcome = λ x. record { answer = x; writes = removals l n old ++ additions l n new } in
      found_by reads ∙ ap (outcome_by reads old) e
      ∙ free_is_checked reads n.table found lookups new (outcome (count_answer verbs.Update (length new)))
      ∙ ap (rest_of_check reads) (sym (k ∙ (λ i. check_of n.table (f i) lookups new (outcome (a i)))))

-- ---- statements without new rows

pub unchecked_gives : (x : Outcome) (reads : Reads) → rest_of_check reads (unchecked x) ≡ gives x
unfolding search
unchecked_gives x reads = refl

pub found_unchecked : (l : Layout) (n : Named) (s : RowStatement) (rows : List KeyedRow) (x y : Outcome) (check : UniqueCheck) → check ≡ unchecked x → x ≡ y
    → ((reads : Reads) → found_outcome l reads n s rows ≡ gives y) → (reads : Reads) → found_outcome l reads n s rows ≡ rest_of_check reads check
found_unchecked l n s rows x y check e f g = λ reads.
    g reads ∙ sym (ap (rest_of_check reads) (e ∙ ap unchecked f) ∙ unchecked_gives y reads)

pub count_of : (rows : List KeyedRow) → length (rows_of rows) ≡ length rows
count_of rows = length-map rows (λ (x : KeyedRow). x.1)
