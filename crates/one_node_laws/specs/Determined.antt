use Rattle.std.specs.Prelude.{◌≡◌, ◌↔◌, ◌⊎◌, ℕ, ⊤, List, [], ◌∷◌, Option, Result, Ok, Err}
use Rattle.mr_base.specs.declared.ids.AttemptId.{AttemptId}
use Rattle.mr_base.specs.declared.states.SqlState.{SqlState}
use Rattle.mr_base.specs.declared.timestamps.Ts.{Ts}
use Rattle.mvcc_range.specs.Answer.{IsRow}
use Rattle.range_log.specs.Facts.{HasRecord}
use Rattle.range_log.specs.declared.entries.Entry.TheVariants as log
use Rattle.range_log.specs.declared.entries.TxnState.TheVariants as records
use Rattle.region_sql.specs.declared.one_column_forms.OneColumnStatement.{OneColumnStatement}
use Rattle.region_sql.specs.declared.one_column_forms.OneColumnStatement.TheVariants.{Insert, SelectAll}
use Rattle.row_locality.specs.OneColumnDatabases.{Database, IsValid}
use Rattle.journal.specs.declared.entries.JournalEntry.{JournalEntry}
use Rattle.journal.specs.declared.entries.JournalEntry.TheVariants as entry
use Rattle.mr_base.specs.declared.results.StatementResult.{StatementResult}
use Rattle.mr_base.specs.declared.results.Verb.{Verb}
use Rattle.mr_base.specs.declared.results.Verb.TheVariants as verbs
use Rattle.sql_eval.specs.OneColumnAgreement.{AgreesOn, IsChange}
use Rattle.sql_eval.specs.OneColumnExecution.{Answer, Executed, exec}
use Rattle.sql_eval.specs.OneColumnNextSpan.{AsksNothing}
use Rattle.one_node_laws.specs.LinesRun.{LinesRun}
use Rattle.one_node_laws.specs.Steps.{IsStepOf}
use Rattle.one_node_laws.specs.Words.{Beginning, ServedRead, WasServed, HasPut, spans_served, log_of, the_range}

-- A database agrees with all that was served to an attempt.
abbrev pub Agrees : Database → AttemptId → List JournalEntry → Type 0
Agrees d a before = (x : ServedRead) → WasServed the_range x before → x.read.attempt ≡ a → AgreesOn d x.read.span (IsRow x.entries x.read)

-- What the statement of an attempt gives is determined by what was served to it: all of that at one
-- timestamp, no further span is asked for, and for every valid database that agrees the execution has the
-- property.
pub record IsDetermined (before : List JournalEntry) (a : AttemptId) (statement : OneColumnStatement) (ts : Ts) (P : Database → Result Executed SqlState → Type 0) : Type 0 where
  pub at : (x : ServedRead) → WasServed the_range x before → x.read.attempt ≡ a → x.read.at ≡ ts
  pub nothing : AsksNothing statement (spans_served a before)
  pub every : (d : Database) → IsValid d → Agrees d a before → P d (exec statement d)

-- The changes from one database to another are exactly the puts of an attempt.
abbrev pub ArePuts : AttemptId → List JournalEntry → Database → Database → Type 0
ArePuts a before d after =
    (key : List ℕ) (value : Option (List ℕ)) → (IsChange d after key value ↔ ((ts : Ts) × HasPut a key value ts (log_of the_range before)))

-- The execution is no fault, and its changes are the attempt's puts.
abbrev pub GivesPuts : AttemptId → List JournalEntry → Database → Result Executed SqlState → Type 0
GivesPuts a before d (Ok x) = ArePuts a before d x.after
GivesPuts a before d (Err state) = ⊥

abbrev pub verb_of : OneColumnStatement → Verb
verb_of (Insert n) = verbs.Insert
verb_of SelectAll = verbs.Select

-- What is shown of an answer.
abbrev pub shown : OneColumnStatement → Answer → StatementResult
shown statement answer = record { verb = verb_of statement; count = answer.count; rows = answer.rows }

-- The execution has these results, and its changes are the attempt's puts.
abbrev pub GivesResults : OneColumnStatement → List StatementResult → AttemptId → List JournalEntry → Database → Result Executed SqlState → Type 0
GivesResults statement results a before d (Ok x) = (results ≡ shown statement x.answer ∷ []) × ArePuts a before d x.after
GivesResults statement results a before d (Err state) = ⊥

-- The execution is this fault.
abbrev pub GivesFault : SqlState → Database → Result Executed SqlState → Type 0
GivesFault state d r = r ≡ Err state

-- A transaction's acknowledgement stands at the timestamp of its commit or, where it put nothing, at its
-- start.
abbrev pub IsAnsweredAt : List JournalEntry → Beginning → Ts → Type 0
IsAnsweredAt before b ts =
    HasRecord b.attempt (records.Committed ts) (log_of the_range before)
    ⊎ ((ts ≡ b.start)
    × ((key : List ℕ) (value : Option (List ℕ)) (at : Ts) → ¬ HasPut b.attempt key value at (log_of the_range before))
    × ((c : Ts) → ¬ HasRecord b.attempt (records.Committed c) (log_of the_range before)))

-- No record of an attempt says that it is committed.
abbrev pub IsUncommitted : List JournalEntry → AttemptId → Type 0
IsUncommitted before a = (c : Ts) → ¬ HasRecord a (records.Committed c) (log_of the_range before)

-- Determined: each commit, each acknowledgement and each fault is what its statement gives on every valid
-- database that agrees with what was served. (This project's profile.)
abbrev pub Determined : LinesRun → List JournalEntry → JournalEntry → Type 0
Determined s before (entry.Append range index (log.State a (records.Committed c))) =
    (b : Beginning) × (statement : OneColumnStatement) × IsStepOf s before b statement × (b.attempt ≡ a)
    × IsDetermined before a statement c (GivesPuts a before)
Determined s before (entry.Ack t ts results) =
    (b : Beginning) × (statement : OneColumnStatement) × IsStepOf s before b statement × (b.txn ≡ t)
    × IsDetermined before b.attempt statement ts (GivesResults statement results b.attempt before) × IsAnsweredAt before b ts
Determined s before (entry.Fault t ts state) =
    (b : Beginning) × (statement : OneColumnStatement) × IsStepOf s before b statement × (b.txn ≡ t)
    × IsDetermined before b.attempt statement ts (GivesFault state) × (ts ≡ b.start) × IsUncommitted before b.attempt
Determined s before (entry.Refuse t why) =
    (b : Beginning) × (statement : OneColumnStatement) × IsStepOf s before b statement × (b.txn ≡ t) × IsUncommitted before b.attempt
Determined s before e = ⊤
