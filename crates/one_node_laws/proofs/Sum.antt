use Rattle.std.proofs.Common.{◌≡◌, List, [], ◌<◌, ◌≤◌}
use Rattle.std.specs.Prelude.{◌⊎◌, Some, Err}
use Rattle.mr_base.specs.Spans.{IsInsideOne}
use Rattle.mr_base.specs.Timestamps.{IsBelow}
use Rattle.mr_base.specs.declared.ids.AttemptId.{AttemptId}
use Rattle.mr_base.specs.declared.spans.Span.{Span}
use Rattle.mr_base.specs.declared.timestamps.Ts.{Ts}
use Rattle.mvcc_range.specs.Answer.{IsRow}
use Rattle.range_log.specs.Facts.{HasRecord}
use Rattle.range_log.specs.declared.entries.TxnState.TheVariants as records
use Rattle.one_node_laws.proofs.Core.{Core}
use Rattle.one_node_laws.proofs.OrderLemmas.{IsPast}
use Rattle.one_node_laws.specs.Decided.{Decided, IsAmong, WasDecided, replay, those_below}
use Rattle.one_node_laws.specs.LinesRun.{LinesRun}
use Rattle.one_node_laws.specs.Serial.{Acknowledged, Answers, Faulted, HasFaulted, WasAcknowledged}
use Rattle.one_node_laws.specs.Words.{Beginning, ServedRead, WasServed, IsAnswered, attempts_of, begun_here, greatest_start, log_of, spans_served, the_range}
use Rattle.journal.specs.declared.entries.JournalEntry.{JournalEntry}
use Rattle.sql_eval.specs.OneColumnAgreement.{AgreesOn}
use Rattle.sql_eval.specs.OneColumnExecution.{exec}

-- the attempt that began at the last event is decided
abbrev pub IsDecidedNow : List JournalEntry → Beginning → Type 0
IsDecidedNow journal b = ((c : Ts) × HasRecord b.attempt (records.Committed c) (log_of the_range journal)) ⊎ IsAnswered b.txn journal

-- what is known of the transaction that began at the last event
pub record Current (s : LinesRun) (journal : List JournalEntry) (ds : List Decided) (b : Beginning) : Type 0 where
  pub attempt : b.attempt.0 ≡ attempts_of journal
  pub start : greatest_start journal ≡ record { wall = b.start.wall; logical = b.start.logical }
  pub below : (d : Decided) → IsAmong d ds → IsBelow d.ts b.start ⊎ IsDecidedNow journal b
  pub commits : (c : Ts) → HasRecord b.attempt (records.Committed c) (log_of the_range journal) → c ≡ b.start
  pub acks : (x : Acknowledged) → WasAcknowledged s x journal → IsBelow x.ts b.start ⊎ IsAnswered b.txn journal
  pub faults : (x : Faulted) → HasFaulted s x journal → IsBelow x.ts b.start ⊎ IsAnswered b.txn journal
  pub agree : (x : ServedRead) → WasServed the_range x journal → x.read.attempt ≡ b.attempt → AgreesOn (replay (those_below b.start ds)) x.read.span (IsRow x.entries x.read)
  pub at : (x : ServedRead) → WasServed the_range x journal → x.read.attempt ≡ b.attempt → x.read.at ≡ b.start
  pub under : (x : ServedRead) → WasServed the_range x journal → IsBelow x.read.at b.start ⊎ (x.read.at ≡ b.start)
  pub some : (span : Span) → IsInsideOne span (spans_served b.attempt journal) → (x : ServedRead) × WasServed the_range x journal × (x.read.attempt ≡ b.attempt)

-- What the induction over a lawful journal carries.
pub record Sum (s : LinesRun) (journal : List JournalEntry) : Type 0 where
  pub core : Core (log_of the_range journal) (greatest_start journal) (λ d. WasDecided s d journal)
  pub acked_past : (x : Acknowledged) → WasAcknowledged s x journal → IsPast (greatest_start journal) x.ts
  pub faulted_past : (x : Faulted) → HasFaulted s x journal → IsPast (greatest_start journal) x.ts
  pub answers : (x : Acknowledged) → WasAcknowledged s x journal → Answers x.statement x.results (exec x.statement (replay (those_below x.ts core.decided)))
  pub faults : (x : Faulted) → HasFaulted s x journal → exec x.statement (replay (those_below x.ts core.decided)) ≡ Err x.state
  pub served_past : (x : ServedRead) → WasServed the_range x journal → IsPast (greatest_start journal) x.read.at
  pub held : (x : ServedRead) → WasServed the_range x journal → AgreesOn (replay (those_below x.read.at core.decided)) x.read.span (IsRow x.entries x.read)
  pub served_by : (x : ServedRead) → WasServed the_range x journal → x.read.attempt.0 ≤ attempts_of journal
  pub no_spans : (a : AttemptId) → attempts_of journal < a.0 → spans_served a journal ≡ []
  pub recorded_by : (a : AttemptId) (c : Ts) → HasRecord a (records.Committed c) (log_of the_range journal) → a.0 ≤ attempts_of journal
  pub current : (b : Beginning) → begun_here journal ≡ Some b → Current s journal core.decided b
