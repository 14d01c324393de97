-- Over all that a valid database holds, a statement comes to what executing it gives.
use Rattle.std.proofs.Common.{◌≡◌, ℕ, Bool, true, false, List, [], ◌∷◌, ◌++◌, length, refl, sym, ap, ◌∙◌, subst, inl, inr}
use Rattle.std.specs.Prelude.{⊤, not, if◌then◌else◌, filter, map, Result, Ok, Err}
use Rattle.std.specs.List.{AllByRecursion}
use Rattle.std.proofs.lemmas.List.{append-nil, length-map}
use Rattle.mr_base.specs.declared.results.StatementResult.{StatementResult}
use Rattle.mr_base.specs.declared.results.Verb.TheVariants as verbs
use Rattle.mr_base.specs.declared.states.SqlState.{SqlState}
use Rattle.mr_base.specs.declared.states.SqlState.TheVariants.{S23505}
use Rattle.region_sql.specs.declared.row_statements.Literal.{Literal}
use Rattle.region_sql.specs.declared.row_statements.RowStatement.{RowStatement}
use Rattle.region_sql.specs.declared.row_statements.RowStatement.TheVariants.{Insert, Select, Update, Delete}
use Rattle.region_sql.specs.declared.row_statements.Target.{Target}
use Rattle.region_sql.specs.declared.row_statements.Term.{Term}
use Rattle.region_sql.specs.declared.row_statements.Wanted.{Wanted}
use Rattle.descriptors.specs.declared.table.Table.{Table}
use Rattle.row_locality.specs.Plain.{Layout, PlainDatabase, IsSoundLayout, IsValid, IsRowOf}
use Rattle.row_locality.specs.Rows.{Fits}
use Rattle.sql_eval.specs.Agreement.{range_value}
use Rattle.sql_eval.specs.Evaluation.{KeyedRow, Outcome, rows_of, removals, additions, if_free, table_outcome, partitions_of}
use Rattle.sql_eval.specs.Execution.{Named, count_answer, rows_answer, on_rows, rows_in_order, table_rows, with_rows}
use Rattle.sql_eval.specs.Lookups.{new_row_lookups, changed_row_lookups}
use Rattle.sql_eval.specs.OwnWrites.{OwnWrite, OwnWrites, removal, addition, with_writes}
use Rattle.sql_eval.specs.Reads.{stored_reads}
use Rattle.sql_eval.specs.RowWords.{◌>>=◌ as ◌then◌, all_values, checked_row, changed_row, changed_rows, default_region, has_twins, made_rows, matches, shown_rows}
use Rattle.sql_eval.specs.Search.{Evaluation, gives, faults, needs, ◌>>=◌, followed_by, of_result}
use Rattle.answer_laws.proofs.Effects.{AreReplaced, effects}
use Rattle.answer_laws.proofs.FreeRows.{free_stored}
use Rattle.answer_laws.proofs.IndexSearches.{found}
use Rattle.answer_laws.proofs.KeepsValid.{IsNamed, MakesRows, came}
use Rattle.answer_laws.proofs.MatchedRows.{keyed}
use Rattle.answer_laws.proofs.Members.{Has, each_has}
use Rattle.answer_laws.proofs.NewLookups.{Becomes, insert_lookups, update_lookups}
use Rattle.answer_laws.proofs.ReplacedRows.{inserted, updated, deleted, kept}
use Rattle.answer_laws.proofs.RowOrder.{Row}
use Rattle.answer_laws.proofs.RowWrites.{row_writes}
use Rattle.answer_laws.proofs.TrackedWrites.{Held, Tracks}

-- ---- agreement

-- these rows of a table and these writes make the next database
pub record IsDone (l : Layout) (d : PlainDatabase) (place : ℕ) (x : Outcome) (q : Result (StatementResult × List Row) SqlState) : Type 0 where
  pub rows : List Row
  pub result : q ≡ Ok (x.answer, rows)
  pub valid : IsValid l.catalog (with_rows d place rows)
  pub leads : (first : Held) (own : OwnWrites) → Tracks first own (range_value l d) → Tracks first (with_writes own x.writes) (range_value l (with_rows d place rows))

-- what a statement comes to is what executing it on the rows of its table gives
abbrev pub Agrees : Layout → PlainDatabase → ℕ → Evaluation Outcome → Result (StatementResult × List Row) SqlState → Type 0
Agrees l d place (gives x) q = IsDone l d place x q
Agrees l d place (faults code) q = q ≡ Err code
Agrees l d place (needs ask phases asks) q = ⊤

-- ---- rows

rows_of_keyed : (t : Table) (rows : List Row) → rows_of (map (keyed t) rows) ≡ rows
rows_of_keyed t [] = refl
rows_of_keyed t (r ∷ rows) = ap (λ (rs : List Row). r ∷ rs) (rows_of_keyed t rows)

abbrev row_result : Result Row SqlState → Result Row SqlState
row_result r = r

same_rows : (x y : List Row) → ◌≡◌ {A = Result (List Row) SqlState} (Ok x) (Ok y) → x ≡ y
same_rows x y e = cc

partner : (x y m : Row) (xs ys : List Row) → ((z : Row) → Has z ys → (o : Row) × Becomes o z xs ys) → Has m (y ∷ ys) → (o : Row) × Becomes o m (x ∷ xs) (y ∷ ys)
partner x y m xs ys f (inl e) = (x, inl (refl, e))
partner x y m xs ys f (inr h) = let r = f m h in (r.0, inr r.1)

-- each of the values that come out is of one that went in
partners : (f : Row → Result Row SqlState) (olds news : List Row) → all_values (map f olds) ≡ Ok news → (m : Row) → Has m news → (o : Row) × Becomes o m olds news
partners f [] news e m h = absurd (subst (Has m) (sym (same_rows [] news e)) h)
partners f (x ∷ olds) news e m h =
    let r = came (f x) (λ y. ◌then◌ (all_values (map f olds)) (λ ys. Ok (y ∷ ys))) news e in
    let s = came (all_values (map f olds)) (λ ys. Ok (r.0 ∷ ys)) news r.2 in
    let is : r.0 ∷ s.0 ≡ news = same_rows (r.0 ∷ s.0) news s.2 in
    subst (λ (ns : List Row). (o : Row) × Becomes o m (x ∷ olds) ns) is (partner x r.0 m olds s.0 (partners f olds s.0 s.1) (subst (Has m) (sym is) h))

-- ---- statements

module _ (l : Layout) (d : PlainDatabase) (n : Named) (gateway : List ℕ) (sound : IsSoundLayout l) (valid : IsValid l.catalog d) (named : IsNamed l.catalog n) where
  abbrev matching : List Term → List Row
  matching terms = filter (matches n.table terms) (d n.place)

  abbrev staying : List Term → List Row
  staying terms = filter (λ row. not (matches n.table terms row)) (d n.place)

  done : (olds stay new after : List Row) (x : Outcome) (q : Result (StatementResult × List Row) SqlState) → AreReplaced l d n.place n.table olds stay new after
      → q ≡ Ok (x.answer, after) → x.writes ≡ row_writes l n.place n.table removal olds ++ row_writes l n.place n.table addition new → IsDone l d n.place x q
  done olds stay new after x q h e f = record {
    rows = after;
    result = e;
    valid = h.valid;
    leads = λ first own t. subst (λ (ws : List OwnWrite). Tracks first (with_writes own ws) (range_value l (with_rows d n.place after))) (sym f)
        (effects l d n.place n.table olds stay new after sound valid h first own t);
  }

  by_free : (b : Bool) (e : Evaluation (Unit {0})) (x : Outcome) (answer : StatementResult) (after : List Row) → e ≡ (if b then faults S23505 else gives tt)
      → (b ≡ false → IsDone l d n.place x (Ok (answer, after))) → Agrees l d n.place (e >>= λ _. gives x) (◌then◌ (if b then Err S23505 else Ok after) (λ a. Ok (answer, a)))
  by_free true e x answer after f h = subst (λ (z : Evaluation (Unit {0})). Agrees l d n.place (z >>= λ _. gives x) (Err S23505)) (sym f) refl
  by_free false e x answer after f h = subst (λ (z : Evaluation (Unit {0})). Agrees l d n.place (z >>= λ _. gives x) (Ok (answer, after))) (sym f) (h refl)

  fits_new : (new : List Row) → AllByRecursion (IsRowOf l.catalog n.table) new → (m : Row) → Has m new → Fits n.table m
  fits_new new h m k = let is : IsRowOf l.catalog n.table m = each_has (IsRowOf l.catalog n.table) m new h k in is.fits

  -- SELECT
  select_agrees : (table : List ℕ) (wanted : Wanted) (terms : List Term)
      → Agrees l d n.place (table_outcome l gateway (stored_reads l d) n (Select table wanted terms)) (on_rows n gateway (Select table wanted terms) (d n.place))
  unfolding table_outcome on_rows
  select_agrees table wanted terms =
      subst
      (λ (e : Evaluation (List KeyedRow)). Agrees l d n.place (e >>= λ old. gives (record { answer = rows_answer (shown_rows n.table wanted (rows_of old)); writes = [] }))
      (Ok (rows_answer (shown_rows n.table wanted (matching terms)), d n.place)))
      (sym (found l d n.place n.table sound valid named.at gateway terms))
      (done [] (d n.place) [] (d n.place) (record { answer = rows_answer (shown_rows n.table wanted (rows_of (map (keyed n.table) (matching terms)))); writes = [] }) _ (kept l d n valid named)
      (ap (λ (rs : List Row). Ok (rows_answer (shown_rows n.table wanted rs), d n.place)) (sym (rows_of_keyed n.table (matching terms)))) refl)

  -- DELETE
  delete_agrees : (table : List ℕ) (terms : List Term)
      → Agrees l d n.place (table_outcome l gateway (stored_reads l d) n (Delete table terms)) (on_rows n gateway (Delete table terms) (d n.place))
  unfolding table_outcome on_rows
  delete_agrees table terms =
      subst
      (λ (e : Evaluation (List KeyedRow)). Agrees l d n.place (e >>= λ old. gives (record { answer = count_answer verbs.Delete (length old); writes = removals l n (rows_of old) }))
      (Ok (count_answer verbs.Delete (length (matching terms)), staying terms)))
      (sym (found l d n.place n.table sound valid named.at gateway terms))
      (done (matching terms) (staying terms) [] (staying terms)
      (record { answer = count_answer verbs.Delete (length (map (keyed n.table) (matching terms))); writes = removals l n (rows_of (map (keyed n.table) (matching terms))) }) _
      (deleted l d n valid named terms)
      (ap (λ (k : ℕ). Ok (count_answer verbs.Delete k, staying terms)) (sym (length-map (matching terms) (keyed n.table))))
      (ap (removals l n) (rows_of_keyed n.table (matching terms)) ∙ sym (append-nil (row_writes l n.place n.table removal (matching terms)))))

  -- INSERT
  insert_by : (table : List ℕ) (names : List (List ℕ)) (literals : List (List Literal)) → MakesRows l.catalog n gateway (Insert table names literals) (d n.place)
      → (r : Result (List Row) SqlState) → made_rows n.table (default_region n.database gateway) names literals ≡ r
      → Agrees l d n.place
      (of_result r >>= λ made.
      if_free (stored_reads l d) n.table [] (new_row_lookups n.table (partitions_of l n) made) made >>= λ _.
      gives (record { answer = count_answer verbs.Insert (length made); writes = additions l n made }))
      (◌then◌ r (λ made. ◌then◌ (table_rows n.table (d n.place ++ made)) (λ after. Ok (count_answer verbs.Insert (length made), after))))
  insert_by table names literals makes (Err code) e = refl
  insert_by table names literals makes (Ok made) e =
      let rows : AllByRecursion (IsRowOf l.catalog n.table) made = makes.made table names literals made refl e in
      by_free (has_twins n.table (d n.place ++ made)) _ (record { answer = count_answer verbs.Insert (length made); writes = additions l n made }) (count_answer verbs.Insert (length made))
      (rows_in_order n.table (d n.place ++ made))
      (free_stored l d n.place n.table sound valid named.at [] (new_row_lookups n.table (partitions_of l n) made) (d n.place) made
      (insert_lookups l d n.place n.table sound valid named.at made (fits_new made rows)))
      (λ none. done [] (d n.place) made (rows_in_order n.table (d n.place ++ made)) _ _
      (inserted l d n valid named made none (λ m k. each_has (IsRowOf l.catalog n.table) m made rows k)) refl refl)

  insert_agrees : (table : List ℕ) (names : List (List ℕ)) (literals : List (List Literal)) → MakesRows l.catalog n gateway (Insert table names literals) (d n.place)
      → Agrees l d n.place (table_outcome l gateway (stored_reads l d) n (Insert table names literals)) (on_rows n gateway (Insert table names literals) (d n.place))
  unfolding table_outcome on_rows
  insert_agrees table names literals makes = insert_by table names literals makes (made_rows n.table (default_region n.database gateway) names literals) refl

  -- UPDATE
  changed_partners : (targets : List Target) (olds news : List Row) → changed_rows n.table targets olds ≡ Ok news → (m : Row) → Has m news → (o : Row) × Becomes o m olds news
  unfolding changed_rows
  changed_partners targets olds news e m h = partners (λ old. checked_row n.table (changed_row n.table targets old)) olds news e m h

  update_by : (table : List ℕ) (targets : List Target) (terms : List Term) → MakesRows l.catalog n gateway (Update table targets terms) (d n.place)
      → (r : Result (List Row) SqlState) → changed_rows n.table targets (matching terms) ≡ r
      → Agrees l d n.place
      (of_result r >>= λ new.
      if_free (stored_reads l d) n.table (map (keyed n.table) (matching terms)) (changed_row_lookups n.table (partitions_of l n) (matching terms) new) new >>= λ _.
      gives (record { answer = count_answer verbs.Update (length new); writes = removals l n (matching terms) ++ additions l n new }))
      (◌then◌ r (λ changed. ◌then◌ (table_rows n.table (staying terms ++ changed)) (λ after. Ok (count_answer verbs.Update (length changed), after))))
  update_by table targets terms makes (Err code) e = refl
  update_by table targets terms makes (Ok new) e =
      let rows : AllByRecursion (IsRowOf l.catalog n.table) new = makes.changed table targets terms new refl e in
      by_free (has_twins n.table (staying terms ++ new)) _ (record { answer = count_answer verbs.Update (length new); writes = removals l n (matching terms) ++ additions l n new })
      (count_answer verbs.Update (length new)) (rows_in_order n.table (staying terms ++ new))
      (free_stored l d n.place n.table sound valid named.at (map (keyed n.table) (matching terms)) (changed_row_lookups n.table (partitions_of l n) (matching terms) new) (staying terms) new
      (update_lookups l d n.place n.table sound valid named.at terms new (fits_new new rows) (changed_partners targets (matching terms) new e)))
      (λ none. done (matching terms) (staying terms) new (rows_in_order n.table (staying terms ++ new)) _ _
      (updated l d n valid named terms new none (λ m k. each_has (IsRowOf l.catalog n.table) m new rows k)) refl refl)

  abbrev update_from : List Target → List Term → List Row → Evaluation Outcome
  update_from targets terms rows =
      of_result (changed_rows n.table targets rows) >>= λ new.
      if_free (stored_reads l d) n.table (map (keyed n.table) (matching terms)) (changed_row_lookups n.table (partitions_of l n) rows new) new >>= λ _.
      gives (record { answer = count_answer verbs.Update (length new); writes = removals l n rows ++ additions l n new })

  update_agrees : (table : List ℕ) (targets : List Target) (terms : List Term) → MakesRows l.catalog n gateway (Update table targets terms) (d n.place)
      → Agrees l d n.place (table_outcome l gateway (stored_reads l d) n (Update table targets terms)) (on_rows n gateway (Update table targets terms) (d n.place))
  unfolding table_outcome on_rows
  update_agrees table targets terms makes =
      let q : Result (StatementResult × List Row) SqlState =
      ◌then◌ (changed_rows n.table targets (matching terms))
      (λ changed. ◌then◌ (table_rows n.table (staying terms ++ changed)) (λ after. Ok (count_answer verbs.Update (length changed), after))) in
      subst
      (λ (e : Evaluation (List KeyedRow)). Agrees l d n.place
      (followed_by 1 e >>= λ old.
      of_result (changed_rows n.table targets (rows_of old)) >>= λ new.
      if_free (stored_reads l d) n.table old (changed_row_lookups n.table (partitions_of l n) (rows_of old) new) new >>= λ _.
      gives (record { answer = count_answer verbs.Update (length new); writes = removals l n (rows_of old) ++ additions l n new })) q)
      (sym (found l d n.place n.table sound valid named.at gateway terms))
      (subst (λ (rs : List Row). Agrees l d n.place (update_from targets terms rs) q) (sym (rows_of_keyed n.table (matching terms)))
      (update_by table targets terms makes (changed_rows n.table targets (matching terms)) refl))

  -- over all that a valid database holds, a statement comes to what executing it gives
  pub table_agrees : (s : RowStatement) → MakesRows l.catalog n gateway s (d n.place)
      → Agrees l d n.place (table_outcome l gateway (stored_reads l d) n s) (on_rows n gateway s (d n.place))
  table_agrees (Insert table names literals) makes = insert_agrees table names literals makes
  table_agrees (Select table wanted terms) makes = select_agrees table wanted terms
  table_agrees (Update table targets terms) makes = update_agrees table targets terms makes
  table_agrees (Delete table terms) makes = delete_agrees table terms
