use Rattle.std.proofs.Common.{◌≡◌, ◌≢◌, ℕ, Bool, cond, List, [], ◌∷◌, ◌≤◌, ◌<◌, ◌+◌, inl, inr, refl, sym, ap, ◌∙◌, subst, arith, length}
use Rattle.std.specs.Prelude.{Some}
use Rattle.mr_base.proofs.SpanLemmas.{inside_itself}
use Rattle.mr_base.specs.Spans.{IsInsideOne}
use Rattle.mr_base.specs.Timestamps.{of_reading}
use Rattle.mr_base.specs.declared.ids.AttemptId.{AttemptId}
use Rattle.mr_base.specs.declared.settings.Kind.TheVariants as kinds
use Rattle.mr_base.specs.declared.spans.Span.{Span}
use Rattle.mr_base.specs.declared.timestamps.Reading.{Reading}
use Rattle.mvcc_range.specs.Answer.{Read, IsRow, GivesRows}
use Rattle.range_log.specs.Facts.{lease_of, first_entries}
use Rattle.range_log.specs.declared.entries.Entry.{Entry}
use Rattle.region_sql.specs.OneColumnForms.{IsOneColumnText}
use Rattle.region_sql.specs.declared.one_column_forms.OneColumnStatement.{OneColumnStatement}
use Rattle.one_node_laws.specs.Begun.{next_start, reading_at}
use Rattle.one_node_laws.specs.Determined.{Agrees}
use Rattle.one_node_laws.specs.Lawful.{IsPermitted}
use Rattle.one_node_laws.specs.LinesRun.{LinesRun, NumberedEvent, with_line}
use Rattle.one_node_laws.specs.Runs.{going_on}
use Rattle.one_node_laws.specs.Served.{MayServe}
use Rattle.one_node_laws.specs.Steps.{numbers, IsStepOf}
use Rattle.one_node_laws.specs.Words.{Beginning, ServedRead, WasServed, IsAnswered, attempts_of, begun_here, lines_of, log_of, spans_served, the_node, the_range}
use Rattle.journal.specs.declared.entries.How.TheVariants as how
use Rattle.journal.specs.declared.entries.JournalEntry.{JournalEntry}
use Rattle.journal.specs.declared.entries.JournalEntry.TheVariants as entry
use Rattle.journal.specs.declared.events.Event.TheVariants as events
use Rattle.one_node.proofs.FactLemmas.{LogFacts, log_facts, no_spans, told_same}
use Rattle.one_node.proofs.JournalLemmas.{served_before}
use Rattle.one_node.proofs.LogLemmas.{all_entries}
use Rattle.one_node.proofs.ReadLemmas.{Reads, gives_rows}
use Rattle.row_locality.specs.OneColumnDatabases.{Database}
use Rattle.sql_eval.specs.OneColumnAgreement.{AgreesOn}
use Rattle.one_node.specs.Bounds.{IsAhead}
use Rattle.one_node.specs.Courses.{IsServable}
use Rattle.one_node.specs.Kept.{AreWithin, IsKept, tidy_log}
use Rattle.one_node.specs.Steps.{begin_step, serve_step}
use Rattle.one_node.specs.declared.range.Range.{Range}
use Rattle.one_node.specs.declared.transaction.Begun.{Begun}
use Rattle.sql_eval.specs.OneColumnNextSpan.{span_of}

abbrev pub beginning_of : Begun → Beginning
beginning_of b = record { txn = b.txn; attempt = b.attempt; gateway = the_node; start = b.start; limit = Some b.limit }

-- the scenario once a transaction's line is run, whatever lines come later
abbrev pub with_txn : List NumberedEvent → LinesRun → ℕ → Begun → List ℕ → LinesRun
with_txn later s line b text = going_on later (with_line s line (events.Txn b.txn the_node kinds.Now text))

-- what is known where a transaction begins
pub record TxnFacts (s : LinesRun) (k : Reading) (count line : ℕ) (b : Begun) (st : OneColumnStatement) (text : List ℕ) (range : Range) (journal : List JournalEntry) : Type 0 where
  pub lines : lines_of journal ≡ numbers s.events
  pub fresh : ¬ IsAnswered b.txn journal
  pub list : IsOneColumnText text st
  pub attempt : b.attempt.0 ≡ count + 1
  pub attempts : attempts_of journal ≡ count
  pub start : b.start ≡ of_reading (next_start s journal) b.attempt.0
  pub limit : b.limit ≡ b.start.wall + s.settings.max_offset
  pub ahead : IsAhead k b.start
  pub wall : b.start.wall ≤ s.clock
  pub passed : b.start.wall ≤ (reading_at s (begin_step b ∷ journal)).wall
  pub within : AreWithin k count journal
  pub kept : IsKept k count range journal

module _ (later : List NumberedEvent) (s : LinesRun) (k : Reading) (count line : ℕ) (b : Begun) (st : OneColumnStatement) (text : List ℕ) (range : Range) (journal : List JournalEntry)
    (facts : TxnFacts s k count line b st text range journal) where
  new_attempt : count < b.attempt.0
  new_attempt = omega (arith, facts.attempt)

  -- an entry of the transaction's step
  pub step_of : (before : List JournalEntry) → begun_here before ≡ Some (beginning_of b) → lines_of before ≡ line ∷ lines_of journal → ¬ IsAnswered b.txn before
      → IsStepOf (with_txn later s line b text) before (beginning_of b) st
  step_of before here lines unanswered =
      record {
        begun = here;
        open_yet = unanswered;
        text = text;
        line = record { later = later; line = line; earlier = s.events; here = refl; run = lines ∙ ap (λ l. line ∷ l) facts.lines };
        list = facts.list;
      }

  -- the facts of the log
  pub log_is : LogFacts k count facts.kept.expiration facts.kept.rows b.attempt b.start (log_of the_range journal)
  log_is = log_facts k count facts.kept.expiration facts.kept.rows facts.kept.are_rows b.attempt new_attempt b.start (log_of the_range journal) facts.kept.log_is

  pub event_ok : IsPermitted (with_txn later s line b text) journal (entry.Event line)
  event_ok =
      record {
        order = record { later = later; event = events.Txn b.txn the_node kinds.Now text; earlier = s.events; here = refl; run = facts.lines };
        served = tt;
        appended = tt;
        laid = tt;
        records = tt;
        determined = tt;
        waited = tt;
        begun = tt;
      }

  pub begin_ok : IsPermitted (with_txn later s line b text) (entry.Event line ∷ journal) (begin_step b)
  begin_ok =
      record {
        order = ((line, journal, refl), text, record { later = later; line = line; earlier = s.events; here = refl; run = ap (λ l. line ∷ l) facts.lines });
        served = tt;
        appended = tt;
        laid = tt;
        records = tt;
        determined = tt;
        waited = tt;
        begun = record { gateway_is = refl; attempt = facts.attempt ∙ ap (λ x. x + 1) (sym facts.attempts); start_is = facts.start; limit_is = ap Some facts.limit };
      }

  -- the entries of the log when the transaction is served
  pub entries_are : first_entries range.length (log_of the_range journal) ≡ tidy_log facts.kept.expiration facts.kept.rows
  entries_are = all_entries range.length (log_of the_range journal) (facts.kept.length_is ∙ ap length (sym facts.kept.log_is)) ∙ facts.kept.log_is

  abbrev pub the_read : Span → Read
  the_read span = record { attempt = b.attempt; span = span; at = b.start; limit = Some b.limit; known = [] }

  pub reads : (span : Span) → Reads k count facts.kept.expiration facts.kept.rows (the_read span)
  reads span = record { rows = facts.kept.are_rows; ahead = facts.ahead; known = refl }

  lease_is : (servable : IsServable range.lease b) → MayServe how.Lease (tidy_log facts.kept.expiration facts.kept.rows) the_node b.start (Some b.limit)
  lease_is servable = (servable.0, subst (λ (y : List Entry). lease_of y ≡ Some servable.0) facts.kept.log_is (log_is.lease ∙ sym facts.kept.lease ∙ servable.1), servable.2)

  pub serve_ok : IsServable range.lease b → IsPermitted (with_txn later s line b text) (begin_step b ∷ entry.Event line ∷ journal) (serve_step b (span_of st) range.length)
  serve_ok servable =
      record {
        order = (beginning_of b, st, step_of (begin_step b ∷ entry.Event line ∷ journal) refl refl facts.fresh, refl);
        served = record {
          beginning = beginning_of b;
          statement = st;
          step = step_of (begin_step b ∷ entry.Event line ∷ journal) refl refl facts.fresh;
          attempt = refl;
          node_is = refl;
          range_is = refl;
          may_serve = subst (λ (y : List Entry). MayServe how.Lease y the_node b.start (Some b.limit)) (sym entries_are) (lease_is servable);
          applied = facts.kept.length_is ∙ ap length (sym facts.kept.log_is);
          at_is = refl;
          limit_is = refl;
          asked = (refl, subst (λ (y : List Span). ¬ IsInsideOne (span_of st) y) (sym (no_spans k count journal facts.within b.attempt new_attempt)) (λ h. h));
          known_is = refl;
          rows = subst (λ (y : List Entry). GivesRows y (the_read (span_of st))) (sym entries_are) (gives_rows k count facts.kept.expiration facts.kept.rows (the_read (span_of st)) (reads (span_of st)));
        };
        appended = tt;
        laid = tt;
        records = tt;
        determined = tt;
        waited = tt;
        begun = tt;
      }

  -- what was served when the transaction was
  abbrev pub served_journal : List JournalEntry
  served_journal = serve_step b (span_of st) range.length ∷ begin_step b ∷ entry.Event line ∷ journal

  abbrev pub the_served : ServedRead
  the_served = record { read = the_read (span_of st); entries = first_entries range.length (log_of the_range journal) }

  not_begun : (x : ServedRead) → WasServed the_range x journal → x.read.attempt ≢ b.attempt
  not_begun x w own = omega (arith, new_attempt, (served_before k count journal facts.within the_range x w).0, ap (λ (y : AttemptId). y.0) own)

  pub one_serve : (x : ServedRead) → WasServed the_range x served_journal → x.read.attempt ≡ b.attempt → x ≡ the_served
  one_serve x (inl (e, q)) own = q
  one_serve x (inr w) own = absurd (not_begun x w own)

  pub asks_nothing : IsInsideOne (span_of st) (spans_served b.attempt served_journal)
  asks_nothing =
      subst (λ (t : Bool). IsInsideOne (span_of st) (cond t (span_of st ∷ spans_served b.attempt journal) (spans_served b.attempt journal)))
      (sym (told_same b.attempt.0)) (inl (inside_itself (span_of st)))

  pub at_start : (x : ServedRead) → WasServed the_range x served_journal → x.read.attempt ≡ b.attempt → x.read.at ≡ b.start
  at_start x w own = ap (λ (y : ServedRead). y.read.at) (one_serve x w own)

  -- a database that agrees with what was served agrees with the rows
  pub agrees_with : (d : Database) → Agrees d b.attempt served_journal → AgreesOn d (span_of st) (IsRow (tidy_log facts.kept.expiration facts.kept.rows) (the_read (span_of st)))
  agrees_with d agrees =
      subst (λ (y : List Entry). AgreesOn d (span_of st) (IsRow y (the_read (span_of st)))) entries_are (agrees the_served (inl (refl, refl)) refl)
