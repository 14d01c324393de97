use Rattle.std.specs.Prelude.{◌≡◌, ℕ, ◌⊎◌, ⊤, List, [], ◌∷◌, Option, Some, if◌then◌else◌, Result, Ok, Err}
use Rattle.mr_base.specs.Timestamps.{IsBelow, ts_lt}
use Rattle.mr_base.specs.declared.ids.AttemptId.{AttemptId}
use Rattle.mr_base.specs.declared.states.SqlState.{SqlState}
use Rattle.mr_base.specs.declared.timestamps.Ts.{Ts}
use Rattle.range_log.specs.Facts.{HasRecord}
use Rattle.range_log.specs.declared.entries.Entry.{Entry}
use Rattle.range_log.specs.declared.entries.Entry.TheVariants as log
use Rattle.range_log.specs.declared.entries.TxnState.TheVariants as records
use Rattle.region_sql.specs.declared.one_column_forms.OneColumnStatement.{OneColumnStatement}
use Rattle.row_locality.specs.OneColumnDatabases.{Database}
use Rattle.journal.specs.declared.entries.JournalEntry.{JournalEntry}
use Rattle.journal.specs.declared.entries.JournalEntry.TheVariants as entry
use Rattle.sql_eval.specs.OneColumnExecution.{Executed, exec}
use Rattle.one_node_laws.specs.Determined.{IsUncommitted}
use Rattle.one_node_laws.specs.LinesRun.{LinesRun}
use Rattle.one_node_laws.specs.Steps.{IsStepOf}
use Rattle.one_node_laws.specs.Words.{Beginning, HasPut}

-- A decided transaction: its timestamp and its statement.
pub record Decided : Type 0 where
  pub ts : Ts
  pub statement : OneColumnStatement

-- An entry decides a transaction: its commit, its acknowledgement where it has none, or its
-- fault.
abbrev pub Decides : LinesRun → List JournalEntry → JournalEntry → Decided → Type 0
Decides s before (entry.Append range index (log.State a (records.Committed c))) d =
    (b : Beginning) × IsStepOf s before b d.statement × (b.attempt ≡ a) × (d.ts ≡ c)
Decides s before (entry.Ack t ts results) d =
    (b : Beginning) × IsStepOf s before b d.statement × (b.txn ≡ t) × (d.ts ≡ ts) × IsUncommitted before b.attempt
Decides s before (entry.Fault t ts state) d = (b : Beginning) × IsStepOf s before b d.statement × (b.txn ≡ t) × (d.ts ≡ ts)
Decides s before e d = ⊥

-- A transaction was decided so.
abbrev pub WasDecided : LinesRun → Decided → List JournalEntry → Type 0
WasDecided s d [] = ⊥
WasDecided s d (e ∷ before) = Decides s before e d ⊎ WasDecided s d before

-- One of these is the transaction.
abbrev pub IsAmong : Decided → List Decided → Type 0
IsAmong d [] = ⊥
IsAmong d (e ∷ es) = (e ≡ d) ⊎ IsAmong d es

-- Decided transactions stand in the order of their timestamps, the latest first.
abbrev pub AreBelow : Ts → List Decided → Type 0
AreBelow ts [] = ⊤
AreBelow ts (d ∷ ds) = IsBelow d.ts ts × AreBelow ts ds

abbrev pub AreFalling : List Decided → Type 0
AreFalling [] = ⊤
AreFalling (d ∷ ds) = AreBelow d.ts ds × AreFalling ds

-- Those below a timestamp.
abbrev pub those_below : Ts → List Decided → List Decided
those_below ts [] = []
those_below ts (d ∷ ds) = if ts_lt d.ts ts then d ∷ those_below ts ds else those_below ts ds

-- The database after a statement: a fault undoes it.
abbrev pub after : Result Executed SqlState → Database → Database
after (Ok x) d = x.after
after (Err state) d = d

-- The replay of decided transactions on one site, one after the other from an empty table, the earliest
-- first.
abbrev pub replay : List Decided → Database
replay [] = []
replay (d ∷ earlier) = after (exec d.statement (replay earlier)) (replay earlier)

-- A key has a value by the commits below a timestamp: that of the put whose attempt committed last.
pub record IsHeld (entries : List Entry) (ts : Ts) (key value : List ℕ) : Type 0 where
  pub attempt : AttemptId
  pub commit : Ts
  pub committed : HasRecord attempt (records.Committed commit) entries
  pub laid : Ts
  pub put : HasPut attempt key (Some value) laid entries
  pub below : IsBelow commit ts
  pub last : (a : AttemptId) (c : Ts) (v : Option (List ℕ)) (p : Ts) → HasRecord a (records.Committed c) entries → HasPut a key v p entries → IsBelow c ts → ¬ IsBelow commit c
