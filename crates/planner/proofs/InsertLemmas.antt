-- INSERT as the check of the rows that it makes.
use Rattle.std.proofs.Common.{◌≡◌, ℕ, Bool, true, false, List, [], refl, sym, ap, ◌∙◌, arith}
use Rattle.std.specs.Prelude.{◌||◌, if◌then◌else◌, Option, Some, None, All, length, Result, Ok, Err}
use Rattle.std.specs.List.{list_any}
use Rattle.std.proofs.lemmas.List.Elements.{All-from_recursion}
use Rattle.mr_base.specs.declared.results.StatementResult.{StatementResult}
use Rattle.mr_base.specs.declared.results.Verb.TheVariants as verbs
use Rattle.mr_base.specs.declared.rows.Datum.{Datum}
use Rattle.mr_base.specs.declared.states.SqlState.{SqlState}
use Rattle.mr_base.specs.declared.states.SqlState.TheVariants.{S23505}
use Rattle.region_sql.specs.TextLiterals.{TextsAreUtf8}
use Rattle.region_sql.specs.declared.row_statements.Literal.{Literal}
use Rattle.region_sql.specs.declared.row_statements.RowStatement.TheVariants.{Insert}
use Rattle.descriptors.specs.declared.table.Table.{Table}
use Rattle.descriptors.specs.Contents.{Contents}
use Rattle.row_locality.specs.Plain.{AreRowsOf, IsRowOf, Layout}
use Rattle.sql_eval.specs.Evaluation.{KeyedRow, Outcome, Setting, additions, checked_outcome, if_free, meets_other, partitions_of, table_outcome, unless}
use Rattle.sql_eval.specs.Execution.{Named, count_answer, named_table}
use Rattle.sql_eval.specs.Faults.{check_fault}
use Rattle.sql_eval.specs.Laws.{IsSoundSetting}
use Rattle.sql_eval.specs.Lookups.{new_row_lookups}
use Rattle.sql_eval.specs.Reads.{Reads}
use Rattle.sql_eval.specs.RowWords.{default_region, has_twins, made_rows}
use Rattle.sql_eval.specs.Search.{Evaluation, gives, faults, needs, ◌>>=◌, Answer, Lookup, of_result, search}
use Rattle.answer_laws.proofs.ExecutedLists.{makes_rows, sound_named}
use Rattle.answer_laws.proofs.KeepsValid.{is_named}
use Rattle.planner.specs.Phases.{rest_of_check}
use Rattle.planner.specs.declared.phases.UniqueCheck.{UniqueCheck}

-- ---- new rows that meet no other

judged : (b : Bool) (x : Outcome) → ((if b then faults S23505 else gives (tt {0})) >>= λ _. gives x) ≡ (if b then faults S23505 else gives x)
judged true x = refl
judged false x = refl

free_by : (t : Table) (replaced : List KeyedRow) (new : List (List Datum)) (x : Outcome) (e : Evaluation (List Answer))
    → ((e >>= λ answers. (if list_any (meets_other replaced) answers || has_twins t new then faults S23505 else gives (tt {0}))) >>= λ _. gives x)
    ≡ (e >>= λ answers. (if list_any (meets_other replaced) answers || has_twins t new then faults S23505 else gives x))
free_by t replaced new x (gives answers) = judged (list_any (meets_other replaced) answers || has_twins t new) x
free_by t replaced new x (faults e) = refl
free_by t replaced new x (needs ask phases asks) = refl

-- the check of new rows that comes to this
abbrev pub check_of : Table → List KeyedRow → List Lookup → List (List Datum) → Outcome → UniqueCheck
check_of t replaced lookups new x = record { lookups = lookups; passed = 0; replaced = replaced; has_twins = has_twins t new; outcome = x }

pub free_is_checked : (reads : Reads) (t : Table) (replaced : List KeyedRow) (lookups : List Lookup) (new : List (List Datum)) (x : Outcome)
    → (if_free reads t replaced lookups new >>= λ _. gives x) ≡ rest_of_check reads (check_of t replaced lookups new x)
unfolding if_free
free_is_checked reads t replaced lookups new x = free_by t replaced new x (search reads (meets_other replaced) lookups)

-- ---- INSERT

no_rows : (c : Contents) (t : Table) → AreRowsOf c t []
no_rows c t = record {
  each = λ i d h. absurd (omega (arith, h));
  rising = λ i j d h k. absurd (omega (arith, k));
  apart = λ i j d h k. absurd (omega (arith, k));
}

-- the rows that it makes are such as its table may hold
pub made_are_rows : (s : Setting) (n : Named) (gateway table : List ℕ) (names : List (List ℕ)) (rows : List (List Literal)) (made : List (List Datum)) → IsSoundSetting s
    → named_table s.layout.catalog table ≡ Some n → TextsAreUtf8 (Insert table names rows) → check_fault n.table n.database (Insert table names rows) ≡ None
    → made_rows n.table (default_region n.database gateway) names rows ≡ Ok made → All (IsRowOf s.layout.catalog n.table) made
made_are_rows s n gateway table names rows made sound named' texts checked e =
    let c = s.layout.catalog in
    let makes = makes_rows c n gateway (Insert table names rows) [] (sound_named c n sound.layout.catalog (is_named c table n named')) texts checked (no_rows c n.table) in
    All-from_recursion (IsRowOf c n.table) made (makes.made table names rows made refl e)

module _ (l : Layout) (gateway : List ℕ) (n : Named) (table : List ℕ) (names : List (List ℕ)) (rows : List (List Literal)) (checked : check_fault n.table n.database (Insert table names rows) ≡ None) where
  abbrev made_by : Reads → Result (List (List Datum)) SqlState → Evaluation Outcome
  made_by reads r =
      of_result r >>= λ made.
      if_free reads n.table [] (new_row_lookups n.table (partitions_of l n) made) made >>= λ _.
      gives (record { answer = count_answer verbs.Insert (length made); writes = additions l n made })

  begun : (reads : Reads) → checked_outcome l gateway reads (Insert table names rows) n ≡ made_by reads (made_rows n.table (default_region n.database gateway) names rows)
  unfolding table_outcome
  begun reads = ap (λ (o : Option SqlState). unless o (table_outcome l gateway reads n (Insert table names rows))) checked

  pub insert_faulty : (code : SqlState) → made_rows n.table (default_region n.database gateway) names rows ≡ Err code → (reads : Reads)
      → checked_outcome l gateway reads (Insert table names rows) n ≡ faults code
  insert_faulty code e = λ reads. begun reads ∙ ap (made_by reads) e

  pub insert_checked : (made : List (List Datum)) (answer : StatementResult) (check : UniqueCheck) → made_rows n.table (default_region n.database gateway) names rows ≡ Ok made
      → answer ≡ count_answer verbs.Insert (length made)
      → check ≡ check_of n.table [] (new_row_lookups n.table (partitions_of l n) made) made (record { answer = answer; writes = additions l n made }) → (reads : Reads)
      → checked_outcome l gateway reads (Insert table names rows) n ≡ rest_of_check reads check
  insert_checked made answer check e a k = λ reads.
      begun reads ∙ ap (made_by reads) e
      ∙ free_is_checked reads n.table [] (new_row_lookups n.table (partitions_of l n) made) made (record { answer = count_answer verbs.Insert (length made); writes = additions l n made })
      ∙ ap (rest_of_check reads) (sym (k ∙ ap (λ (x : StatementResult). check_of n.table [] (new_row_lookups n.table (partitions_of l n) made) made (record { answer = x; writes = additions l n made })) a))
