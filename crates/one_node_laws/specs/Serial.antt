use Rattle.std.specs.Prelude.{◌≡◌, ◌↔◌, ◌⊎◌, ℕ, List, [], ◌∷◌, Result, Ok, Err}
use Rattle.mr_base.specs.declared.states.SqlState.{SqlState}
use Rattle.mr_base.specs.declared.timestamps.Ts.{Ts}
use Rattle.region_sql.specs.declared.one_column_forms.OneColumnStatement.{OneColumnStatement}
use Rattle.row_locality.specs.OneColumnDatabases.{IsValid}
use Rattle.journal.specs.declared.entries.JournalEntry.{JournalEntry}
use Rattle.journal.specs.declared.entries.JournalEntry.TheVariants as entry
use Rattle.mr_base.specs.declared.results.StatementResult.{StatementResult}
use Rattle.sql_eval.specs.OneColumnAgreement.{Holds}
use Rattle.sql_eval.specs.OneColumnExecution.{Executed, exec}
use Rattle.one_node_laws.specs.Decided.{Decided, WasDecided, IsAmong, AreFalling, those_below, replay, IsHeld}
use Rattle.one_node_laws.specs.Determined.{shown}
use Rattle.one_node_laws.specs.LinesRun.{LinesRun}
use Rattle.one_node_laws.specs.Steps.{IsStepOf}
use Rattle.one_node_laws.specs.Words.{Beginning, log_of, the_range}

-- The rows of a transaction that was acknowledged, with its statement and timestamp.
pub record Acknowledged : Type 0 where
  pub ts : Ts
  pub statement : OneColumnStatement
  pub results : List StatementResult

abbrev pub WasAcknowledged : LinesRun → Acknowledged → List JournalEntry → Type 0
WasAcknowledged s x [] = ⊥
WasAcknowledged s x (entry.Ack t ts results ∷ before) =
    ((b : Beginning) × IsStepOf s before b x.statement × (b.txn ≡ t) × (x.ts ≡ ts) × (x.results ≡ results)) ⊎ WasAcknowledged s x before
WasAcknowledged s x (e ∷ before) = WasAcknowledged s x before

-- The fault of a transaction, with its statement and timestamp.
pub record Faulted : Type 0 where
  pub ts : Ts
  pub statement : OneColumnStatement
  pub state : SqlState

abbrev pub HasFaulted : LinesRun → Faulted → List JournalEntry → Type 0
HasFaulted s x [] = ⊥
HasFaulted s x (entry.Fault t ts state ∷ before) =
    ((b : Beginning) × IsStepOf s before b x.statement × (b.txn ≡ t) × (x.ts ≡ ts) × (x.state ≡ state)) ⊎ HasFaulted s x before
HasFaulted s x (e ∷ before) = HasFaulted s x before

-- An execution answers with these results.
abbrev pub Answers : OneColumnStatement → List StatementResult → Result Executed SqlState → Type 0
Answers statement results (Ok x) = results ≡ shown statement x.answer ∷ []
Answers statement results (Err state) = ⊥

-- Serial: there is one order of the decided transactions, that of their timestamps, such that each
-- acknowledged transaction has the rows, and each fault is the fault, of executing those below it one after
-- the other on one site; and what the range holds below any timestamp is that replay, which is valid.
pub record IsSerial (s : LinesRun) (journal : List JournalEntry) : Type 0 where
  pub decided : List Decided
  pub latest_first : AreFalling decided
  pub are : (d : Decided) → (IsAmong d decided ↔ WasDecided s d journal)
  pub answers : (x : Acknowledged) → WasAcknowledged s x journal → Answers x.statement x.results (exec x.statement (replay (those_below x.ts decided)))
  pub faults : (x : Faulted) → HasFaulted s x journal → exec x.statement (replay (those_below x.ts decided)) ≡ Err x.state
  pub valid : (ts : Ts) → IsValid (replay (those_below ts decided))
  pub held : (ts : Ts) (key value : List ℕ) → (Holds (replay (those_below ts decided)) key value ↔ IsHeld (log_of the_range journal) ts key value)
