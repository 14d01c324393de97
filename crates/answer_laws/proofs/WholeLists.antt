-- Over all that a valid database holds, a list comes to what executing it gives.
use Rattle.std.proofs.Common.{◌≡◌, ℕ, ◌*◌, List, [], ◌∷◌, length, refl, sym, ap, subst}
use Rattle.std.specs.Prelude.{⊤, Option, Some, None, Result, Ok, Err}
use Rattle.std.specs.List.{AllByRecursion}
use Rattle.std.specs.Option.{option_map_or}
use Rattle.std.proofs.lemmas.List.Elements.{recursion_from_All}
use Rattle.mr_base.specs.declared.results.StatementResult.{StatementResult}
use Rattle.mr_base.specs.declared.states.SqlState.{SqlState}
use Rattle.mr_base.specs.declared.states.SqlState.TheVariants.{S42P01}
use Rattle.region_sql.specs.TextLiterals.{TextsAreUtf8}
use Rattle.region_sql.specs.declared.row_statements.RowStatement.{RowStatement}
use Rattle.row_locality.specs.Plain.{Layout, PlainDatabase, IsSoundLayout, IsValid}
use Rattle.sql_eval.specs.Agreement.{range_value}
use Rattle.sql_eval.specs.Evaluation.{Outcome, ListOutcome, Setting, unless as unless_faulty, checked_outcome, table_outcome, statement_outcome, list_outcome, evaluation}
use Rattle.sql_eval.specs.Execution.{Named, named_table, table_name, unless, on_rows, on_table, with_rows, exec_statement, exec_list, exec}
use Rattle.sql_eval.specs.Faults.{check_fault}
use Rattle.sql_eval.specs.Laws.{EvaluationIsExecuted, IsExecuted, IsSoundSetting, HaveTexts}
use Rattle.sql_eval.specs.OwnWrites.{OwnWrites, with_writes, reads_through}
use Rattle.sql_eval.specs.Reads.{Reads, stored_reads}
use Rattle.sql_eval.specs.RowWords.{◌>>=◌ as ◌then◌}
use Rattle.sql_eval.specs.Search.{Evaluation, gives, faults, needs, ◌>>=◌, followed_by, of_result}
use Rattle.answer_laws.proofs.AgreeingReads.{executed_if_whole}
use Rattle.answer_laws.proofs.ExecutedLists.{makes_rows, sound_named}
use Rattle.answer_laws.proofs.KeepsValid.{IsNamed, is_named}
use Rattle.answer_laws.proofs.RowOrder.{Row}
use Rattle.answer_laws.proofs.ThroughWrites.{through_writes}
use Rattle.answer_laws.proofs.TrackedWrites.{Held, Tracks, no_writes}
use Rattle.answer_laws.proofs.WholeStatements.{Agrees, table_agrees}
use Rattle.answer_laws.proofs.WrittenChanges.{are_changes}

-- ---- statements

abbrev StatementResults : Type 0
StatementResults = Result (StatementResult × PlainDatabase) SqlState

-- this database follows, and these writes lead to it
record IsFollowed (l : Layout) (d : PlainDatabase) (x : Outcome) (q : StatementResults) : Type 0 where
  after : PlainDatabase
  result : q ≡ Ok (x.answer, after)
  valid : IsValid l.catalog after
  leads : (first : Held) (own : OwnWrites) → Tracks first own (range_value l d) → Tracks first (with_writes own x.writes) (range_value l after)

abbrev StatementAgrees : Layout → PlainDatabase → Evaluation Outcome → StatementResults → Type 0
StatementAgrees l d (gives x) q = IsFollowed l d x q
StatementAgrees l d (faults code) q = q ≡ Err code
StatementAgrees l d (needs ask phases asks) q = ⊤

abbrev in_place : PlainDatabase → ℕ → Result (StatementResult × List Row) SqlState → StatementResults
in_place d place q = ◌then◌ q (λ x. Ok (x.0, with_rows d place x.1))

lifted : (l : Layout) (d : PlainDatabase) (place : ℕ) (e : Evaluation Outcome) (q : Result (StatementResult × List Row) SqlState) → Agrees l d place e q
    → StatementAgrees l d e (in_place d place q)
lifted l d place (gives x) q h = record { after = with_rows d place h.rows; result = ap (in_place d place) h.result; valid = h.valid; leads = h.leads }
lifted l d place (faults code) q h = ap (in_place d place) h
lifted l d place (needs ask phases asks) q h = tt

module _ (l : Layout) (gateway : List ℕ) (sound : IsSoundLayout l) where
  checked : (d : PlainDatabase) (s : RowStatement) (n : Named) (fault : Option SqlState) → IsValid l.catalog d → TextsAreUtf8 s → IsNamed l.catalog n
      → check_fault n.table n.database s ≡ fault
      → StatementAgrees l d (unless_faulty fault (table_outcome l gateway (stored_reads l d) n s)) (in_place d n.place (unless fault (on_rows n gateway s (d n.place))))
  checked d s n None valid texts named e =
      lifted l d n.place (table_outcome l gateway (stored_reads l d) n s) (on_rows n gateway s (d n.place))
      (table_agrees l d n gateway sound valid named s
      (makes_rows l.catalog n gateway s (d n.place) (sound_named l.catalog n sound.catalog named) texts e (valid.tables n.place n.table named.at)))
  checked d s n (Some code) valid texts named e = refl

  in_table : (d : PlainDatabase) (s : RowStatement) (o : Option Named) → IsValid l.catalog d → TextsAreUtf8 s → named_table l.catalog (table_name s) ≡ o
      → StatementAgrees l d (option_map_or (checked_outcome l gateway (stored_reads l d) s) o (faults S42P01)) (option_map_or (on_table gateway s d) o (Err S42P01))
  in_table d s None valid texts e = refl
  in_table d s (Some n) valid texts e = checked d s n (check_fault n.table n.database s) valid texts (is_named l.catalog (table_name s) n e) refl

  statement_agrees : (d : PlainDatabase) (s : RowStatement) → IsValid l.catalog d → TextsAreUtf8 s
      → StatementAgrees l d (statement_outcome l gateway (stored_reads l d) s) (exec_statement l.catalog gateway s d)
  unfolding statement_outcome exec_statement
  statement_agrees d s valid texts = in_table d s (named_table l.catalog (table_name s)) valid texts refl

  -- ---- lists

  abbrev ListResults : Type 0
  ListResults = Result (List StatementResult × PlainDatabase) SqlState

  record IsListDone (first : Held) (y : ListOutcome) (q : ListResults) : Type 0 where
    after : PlainDatabase
    result : q ≡ Ok (y.answers, after)
    tracks : Tracks first y.own (range_value l after)

  abbrev ListAgrees : Held → Evaluation ListOutcome → ListResults → Type 0
  ListAgrees first (gives y) q = IsListDone first y q
  ListAgrees first (faults code) q = q ≡ Err code
  ListAgrees first (needs ask phases asks) q = ⊤

  abbrev with_answer : StatementResult → ListOutcome → ListOutcome
  with_answer a y = record { answers = a ∷ y.answers; own = y.own }

  abbrev with_result : StatementResult → ListResults → ListResults
  with_result a q = ◌then◌ q (λ y. Ok (a ∷ y.0, y.1))

  longer : (first : Held) (a : StatementResult) (e : Evaluation ListOutcome) (q : ListResults) → ListAgrees first e q
      → ListAgrees first (e >>= λ y. gives (with_answer a y)) (with_result a q)
  longer first a (gives y) q h = record { after = h.after; result = ap (with_result a) h.result; tracks = h.tracks }
  longer first a (faults code) q h = ap (with_result a) h
  longer first a (needs ask phases asks) q h = tt

  abbrev then_list : PlainDatabase → OwnWrites → List RowStatement → ℕ → Evaluation Outcome → Evaluation ListOutcome
  then_list d own ss n e =
      followed_by n e >>= λ x. list_outcome l gateway (stored_reads l d) (with_writes own x.writes) ss >>= λ y. gives (with_answer x.answer y)

  abbrev then_results : List RowStatement → StatementResults → ListResults
  then_results ss q = ◌then◌ q (λ x. with_result x.0 (exec_list l.catalog gateway ss x.1))

  next_statement : (d now : PlainDatabase) (own : OwnWrites) (ss : List RowStatement) (n : ℕ) (e : Evaluation Outcome) (q : StatementResults)
      → Tracks (range_value l d) own (range_value l now)
      → ((x : Outcome) (after : PlainDatabase) → IsValid l.catalog after → Tracks (range_value l d) (with_writes own x.writes) (range_value l after)
      → ListAgrees (range_value l d) (list_outcome l gateway (stored_reads l d) (with_writes own x.writes) ss) (exec_list l.catalog gateway ss after))
      → StatementAgrees l now e q → ListAgrees (range_value l d) (then_list d own ss n e) (then_results ss q)
  next_statement d now own ss n (gives x) q t rest h =
      subst (λ (r : StatementResults). ListAgrees (range_value l d) (then_list d own ss n (gives x)) (then_results ss r)) (sym h.result)
      (longer (range_value l d) x.answer (list_outcome l gateway (stored_reads l d) (with_writes own x.writes) ss) (exec_list l.catalog gateway ss h.after)
      (rest x h.after h.valid (h.leads (range_value l d) own t)))
  next_statement d now own ss n (faults code) q t rest h = ap (then_results ss) h
  next_statement d now own ss n (needs ask phases asks) q t rest h = tt

  list_agrees : (d now : PlainDatabase) (own : OwnWrites) (ss : List RowStatement) → IsValid l.catalog now → AllByRecursion TextsAreUtf8 ss
      → Tracks (range_value l d) own (range_value l now)
      → ListAgrees (range_value l d) (list_outcome l gateway (stored_reads l d) own ss) (exec_list l.catalog gateway ss now)
  unfolding list_outcome exec_list
  list_agrees d now own [] valid texts t = record { after = now; result = refl; tracks = t }
  list_agrees d now own (s ∷ ss) valid texts t =
      next_statement d now own ss (3 * length ss) (statement_outcome l gateway (reads_through own (stored_reads l d)) s) (exec_statement l.catalog gateway s now) t
      (λ x after v u. list_agrees d after (with_writes own x.writes) ss v texts.1 u)
      (subst (λ (reads : Reads). StatementAgrees l now (statement_outcome l gateway reads s) (exec_statement l.catalog gateway s now)) (sym (through_writes l d now own t))
      (statement_agrees now s valid texts.0))

-- ---- settings

given : (s : Setting) (d : PlainDatabase) (sound : IsSoundLayout s.layout) (e : Evaluation ListOutcome)
    → ListAgrees s.layout s.region sound (range_value s.layout d) e (exec s.layout.catalog s.region s.list d) → IsExecuted s d e
given s d sound (gives y) h = (h.after, h.result, are_changes s.layout d h.after y.own h.tracks)
given s d sound (faults code) h = h
given s d sound (needs ask phases asks) h = tt

whole_by : (s : Setting) (d : PlainDatabase) (sound : IsSoundLayout s.layout) (r : Result (List RowStatement) SqlState) → HaveTexts r → IsValid s.layout.catalog d
    → ListAgrees s.layout s.region sound (range_value s.layout d) (of_result r >>= λ list. list_outcome s.layout s.region (stored_reads s.layout d) [] list)
    (exec s.layout.catalog s.region r d)
unfolding exec
whole_by s d sound (Ok list) texts valid =
    list_agrees s.layout s.region sound d d [] list valid (recursion_from_All TextsAreUtf8 list texts) (no_writes (range_value s.layout d))
whole_by s d sound (Err code) texts valid = refl

whole_executed : (s : Setting) (d : PlainDatabase) → IsSoundSetting s → IsValid s.layout.catalog d → IsExecuted s d (evaluation s (stored_reads s.layout d))
unfolding evaluation
whole_executed s d sound valid = given s d sound.layout (evaluation s (stored_reads s.layout d)) (whole_by s d sound.layout s.list sound.texts valid)

-- what a list comes to is what executing it gives
pub evaluation_executed : EvaluationIsExecuted
evaluation_executed = executed_if_whole whole_executed
