use Rattle.std.proofs.Common.{◌≡◌, ℕ, ℤ, List, [], ◌∷◌, refl, sym, ap, ap₂, ◌∙◌, subst, length}
use Rattle.std.specs.Prelude.{map, Result, Ok, Err}
use Rattle.std.proofs.lemmas.List.{length-map}
use Rattle.mr_base.specs.declared.states.SqlState.{SqlState}
use Rattle.mr_base.specs.declared.states.SqlState.TheVariants as states
use Rattle.mr_base.specs.declared.timestamps.Reading.{Reading}
use Rattle.region_sql.specs.declared.one_column_forms.OneColumnStatement.{OneColumnStatement}
use Rattle.region_sql.specs.declared.one_column_forms.OneColumnStatement.TheVariants.{Insert, SelectAll}
use Rattle.row_locality.specs.OneColumnDatabases.{Database, IsValid, AreInts, HasId, IsInt, row_with}
use Rattle.row_locality.specs.OneColumnRows.{point_of, the_primary_keys}
use Rattle.one_node_laws.specs.Caused.{IsCaused}
use Rattle.one_node_laws.specs.Determined.{Agrees, ArePuts, GivesPuts, GivesResults}
use Rattle.one_node_laws.specs.Lawful.{IsLawful}
use Rattle.one_node_laws.specs.LinesRun.{LinesRun, NumberedEvent}
use Rattle.one_node_laws.specs.Words.{log_of, the_range}
use Rattle.journal.specs.declared.entries.JournalEntry.{JournalEntry}
use Rattle.mr_base.specs.declared.results.Verb.TheVariants as verbs
use Rattle.one_node.proofs.CourseLemmas.{fault_ok, insert_ok, put_ok, refuse_caused, refuse_ok, resolve_ok, select_ok, state_ok, with_put, with_resolve, with_serve}
use Rattle.one_node.proofs.FactLemmas.{faults, insert_puts, inserts, selects}
use Rattle.one_node.proofs.KnownLemmas.{IsOfInts, line_journal}
use Rattle.one_node.proofs.LineLemmas.{TxnFacts, agrees_with, begin_ok, event_ok, log_is, reads, serve_ok, the_read, with_txn}
use Rattle.one_node.proofs.RowLemmas.{contains_id, contains_no_id}
use Rattle.one_node.specs.Courses.{Goes, IsServable}
use Rattle.one_node.specs.Kept.{HasRowOf}
use Rattle.one_node.specs.declared.courses.Course.{Course}
use Rattle.one_node.specs.declared.courses.Course.TheVariants as courses
use Rattle.one_node.specs.declared.range.Range.{Range}
use Rattle.one_node.specs.declared.transaction.Begun.{Begun}
use Rattle.sql_eval.proofs.OneColumnExecutionLemmas.{no_change}
use Rattle.sql_eval.specs.OneColumnExecution.{Executed, exec, with_id}

module _ (later : List NumberedEvent) (s : LinesRun) (k : Reading) (count line : ℕ) (b : Begun) (text : List ℕ) (range : Range) (journal : List JournalEntry) where
  -- on every valid database that agrees an INSERT of an id that is there is a fault
  faulty : (m : ℤ) (facts : TxnFacts s k count line b (Insert m) text range journal) → IsInt m → HasRowOf m facts.kept.rows → (d : Database) → IsValid d
      → Agrees d b.attempt (with_serve later s k count line b (Insert m) text range journal facts) → exec (Insert m) d ≡ Err states.S23505
  faulty m facts int held d (ms, e, rising, ints) agrees =
      subst (λ (y : Database). exec (Insert m) y ≡ Err states.S23505) (sym e)
      (faults k count facts.kept.expiration facts.kept.rows (the_read later s k count line b (Insert m) text range journal facts (point_of m)) (reads later s k count line b (Insert m) text range journal facts (point_of m)) m int held ms ints
      (agrees_with later s k count line b (Insert m) text range journal facts (map row_with ms)
      (subst (λ (y : Database). Agrees y b.attempt (with_serve later s k count line b (Insert m) text range journal facts)) e agrees)))

  pub duplicate_lawful : (m : ℤ) (facts : TxnFacts s k count line b (Insert m) text range journal) → IsInt m → HasRowOf m facts.kept.rows → IsServable range.lease b → IsLawful (with_txn later s line b text) journal
      → IsLawful (with_txn later s line b text) (line_journal line b (courses.Duplicate m) range journal)
  duplicate_lawful m facts int held servable lawful = (
    fault_ok later s k count line b (Insert m) text range journal facts (faulty m facts int held),
    (
      serve_ok later s k count line b (Insert m) text range journal facts servable,
      (begin_ok later s k count line b (Insert m) text range journal facts, (event_ok later s k count line b (Insert m) text range journal facts, lawful)),
    ),
  )

  -- on every valid database that agrees an INSERT of a new id gives its put
  putting : (m : ℤ) (facts : TxnFacts s k count line b (Insert m) text range journal) → IsInt m → ¬ HasRowOf m facts.kept.rows → (P : Database → Result Executed SqlState → Type 0)
      → ((ms : List ℤ) → AreInts ms → ¬ HasId m ms → P (map row_with ms) (Ok (record { answer = record { count = 1; rows = [] }; after = with_id m (map row_with ms) })))
      → (d : Database) → IsValid d → Agrees d b.attempt (with_serve later s k count line b (Insert m) text range journal facts) → P d (exec (Insert m) d)
  putting m facts int missing P f d (ms, e, rising, ints) agrees =
      subst (λ (y : Database). P y (exec (Insert m) y)) (sym e)
      (inserts k count facts.kept.expiration facts.kept.rows (the_read later s k count line b (Insert m) text range journal facts (point_of m)) (reads later s k count line b (Insert m) text range journal facts (point_of m)) m int missing
      (P (map row_with ms)) ms ints
      (agrees_with later s k count line b (Insert m) text range journal facts (map row_with ms)
      (subst (λ (y : Database). Agrees y b.attempt (with_serve later s k count line b (Insert m) text range journal facts)) e agrees))
      (f ms ints))

  pub insert_lawful : (m : ℤ) (facts : TxnFacts s k count line b (Insert m) text range journal) → IsInt m → ¬ HasRowOf m facts.kept.rows → IsServable range.lease b → IsLawful (with_txn later s line b text) journal
      → IsLawful (with_txn later s line b text) (line_journal line b (courses.Inserts m) range journal)
  insert_lawful m facts int missing servable lawful =
      let puts : (ms : List ℤ) → AreInts ms → ¬ HasId m ms → ArePuts b.attempt (with_put later s k count line b (Insert m) text range journal facts m) (map row_with ms) (with_id m (map row_with ms)) =
      λ ms ints none. insert_puts m ms b.attempt b.start (log_of the_range journal) int ints none (log_is later s k count line b (Insert m) text range journal facts).puts in (
        insert_ok later s k count line b (Insert m) text range journal facts m
            (putting m facts int missing (GivesResults (Insert m) (record { verb = verbs.Insert; count = 1; rows = [] } ∷ []) b.attempt (with_resolve later s k count line b (Insert m) text range journal facts m))
            (λ ms ints none. (refl, puts ms ints none))),
        (
          resolve_ok later s k count line b (Insert m) text range journal facts m,
          (
            state_ok later s k count line b (Insert m) text range journal facts m
                (putting m facts int missing (GivesPuts b.attempt (with_put later s k count line b (Insert m) text range journal facts m)) puts),
            (
              put_ok later s k count line b (Insert m) text range journal facts m,
              (
                serve_ok later s k count line b (Insert m) text range journal facts servable,
                (begin_ok later s k count line b (Insert m) text range journal facts, (event_ok later s k count line b (Insert m) text range journal facts, lawful)),
              ),
            ),
          ),
        ),
      )

  -- on every valid database that agrees a SELECT gives the rows
  selecting : (facts : TxnFacts s k count line b SelectAll text range journal) → (d : Database) → IsValid d
      → Agrees d b.attempt (with_serve later s k count line b SelectAll text range journal facts)
      → GivesResults SelectAll (record { verb = verbs.Select; count = length range.ids.keys; rows = map row_with range.ids.keys } ∷ []) b.attempt (with_serve later s k count line b SelectAll text range journal facts) d (exec SelectAll d)
  selecting facts d (ms, e, rising, ints) agrees =
      let same : ms ≡ range.ids.keys =
      selects k count facts.kept.expiration facts.kept.rows (the_read later s k count line b SelectAll text range journal facts the_primary_keys) (reads later s k count line b SelectAll text range journal facts the_primary_keys)
      range.ids.keys facts.kept.rising facts.kept.ints facts.kept.same ms rising ints
      (agrees_with later s k count line b SelectAll text range journal facts (map row_with ms)
      (subst (λ (y : Database). Agrees y b.attempt (with_serve later s k count line b SelectAll text range journal facts)) e agrees)) in (
        ap₂ (λ x (y : Database). record { verb = verbs.Select; count = x; rows = y } ∷ []) (sym (length-map range.ids.keys row_with) ∙ ap length (sym (e ∙ ap (map row_with) same))) (sym (e ∙ ap (map row_with) same)),
        λ key value. (λ c. absurd (no_change d key value c), λ q. absurd ((log_is later s k count line b SelectAll text range journal facts).puts key value q.0 q.1)),
      )

  pub select_lawful : (facts : TxnFacts s k count line b SelectAll text range journal) → IsServable range.lease b → IsLawful (with_txn later s line b text) journal
      → IsLawful (with_txn later s line b text) (line_journal line b courses.Selects range journal)
  select_lawful facts servable lawful = (
    select_ok later s k count line b SelectAll text range journal facts range.ids.keys (selecting facts),
    (
      serve_ok later s k count line b SelectAll text range journal facts servable,
      (begin_ok later s k count line b SelectAll text range journal facts, (event_ok later s k count line b SelectAll text range journal facts, lawful)),
    ),
  )

  pub refused_lawful : (st : OneColumnStatement) (facts : TxnFacts s k count line b st text range journal) → IsLawful (with_txn later s line b text) journal
      → IsLawful (with_txn later s line b text) (line_journal line b courses.Unserved range journal)
  refused_lawful st facts lawful = (
    refuse_ok later s k count line b st text range journal facts,
    (begin_ok later s k count line b st text range journal facts, (event_ok later s k count line b st text range journal facts, lawful)),
  )

  -- a transaction's line keeps the journal lawful, however it goes
  pub line_lawful : (st : OneColumnStatement) (course : Course) (facts : TxnFacts s k count line b st text range journal) → IsOfInts st → Goes range b st course → IsLawful (with_txn later s line b text) journal
      → IsLawful (with_txn later s line b text) (line_journal line b course range journal)
  line_lawful st courses.Unserved facts ints goes lawful = refused_lawful st facts lawful
  line_lawful st (courses.Duplicate m) facts ints goes lawful =
      let facts' : TxnFacts s k count line b (Insert m) text range journal = subst (λ y. TxnFacts s k count line b y text range journal) goes.1 facts in
      duplicate_lawful m facts' (subst (λ y. IsOfInts y) goes.1 ints) ((facts'.kept.same m).0 (contains_id range.ids m goes.2)) goes.0 lawful
  line_lawful st (courses.Inserts m) facts ints goes lawful =
      let facts' : TxnFacts s k count line b (Insert m) text range journal = subst (λ y. TxnFacts s k count line b y text range journal) goes.1 facts in
      insert_lawful m facts' (subst (λ y. IsOfInts y) goes.1 ints) (λ h. contains_no_id range.ids m goes.2 ((facts'.kept.same m).1 h)) goes.0 lawful
  line_lawful st courses.Selects facts ints goes lawful =
      select_lawful (subst (λ y. TxnFacts s k count line b y text range journal) goes.1 facts) goes.0 lawful

  -- and each refusal caused
  pub line_caused : (st : OneColumnStatement) (course : Course) (facts : TxnFacts s k count line b st text range journal) → Goes range b st course → IsCaused (with_txn later s line b text) journal
      → IsCaused (with_txn later s line b text) (line_journal line b course range journal)
  line_caused st courses.Unserved facts goes caused = (refuse_caused later s k count line b st text range journal facts goes, (tt, (tt, caused)))
  line_caused st (courses.Duplicate m) facts goes caused = (tt, (tt, (tt, (tt, caused))))
  line_caused st (courses.Inserts m) facts goes caused = (tt, (tt, (tt, (tt, (tt, (tt, (tt, caused)))))))
  line_caused st courses.Selects facts goes caused = (tt, (tt, (tt, (tt, caused))))
