use Rattle.std.specs.Prelude.{◌≡◌, ℕ, List, ◌∷◌, ◌++◌}
use Rattle.mr_base.specs.declared.ids.AttemptId.{AttemptId}
use Rattle.mr_base.specs.declared.ids.TxnId.{TxnId}
use Rattle.mr_base.specs.declared.settings.Kind.TheVariants as kinds
use Rattle.range_log.specs.declared.entries.Entry.TheVariants as log
use Rattle.region_sql.specs.declared.one_column_forms.OneColumnStatement.{OneColumnStatement}
use Rattle.journal.specs.declared.entries.JournalEntry.{JournalEntry}
use Rattle.journal.specs.declared.entries.JournalEntry.TheVariants as entry
use Rattle.journal.specs.declared.events.Event.{Event}
use Rattle.journal.specs.declared.events.Event.TheVariants as events
use Rattle.one_node_laws.specs.LinesRun.{LinesRun, NumberedEvent}
use Rattle.one_node_laws.specs.Steps.{numbers, IsRunning, IsStepOf}
use Rattle.one_node_laws.specs.Words.{Beginning, lines_of}

-- The next event is the line of the scenario that follows those of the events before.
pub record IsNextEvent (s : LinesRun) (before : List JournalEntry) (line : ℕ) : Type 0 where
  pub later : List NumberedEvent
  pub event : Event
  pub earlier : List NumberedEvent
  pub here : s.events ≡ later ++ record { line = line; event = event } ∷ earlier
  pub run : lines_of before ≡ numbers earlier

-- The last entry of a journal is an event.
abbrev pub IsAtEvent : List JournalEntry → Type 0
IsAtEvent before = (line : ℕ) × (older : List JournalEntry) × (before ≡ entry.Event line ∷ older)

-- The next entry is of an attempt's step.
abbrev pub IsOfAttempt : LinesRun → List JournalEntry → AttemptId → Type 0
IsOfAttempt s before a = (b : Beginning) × (statement : OneColumnStatement) × IsStepOf s before b statement × (b.attempt ≡ a)

-- The next entry is of a transaction's step.
abbrev pub IsOfTxn : LinesRun → List JournalEntry → TxnId → Type 0
IsOfTxn s before t = (b : Beginning) × (statement : OneColumnStatement) × IsStepOf s before b statement × (b.txn ≡ t)

-- Order: the events are the scenario's lines in their order, and each other entry belongs to the step of
-- its line. Kinds of entries that no line of one node makes aren't permitted. (This project's profile.)
abbrev pub Order : LinesRun → List JournalEntry → JournalEntry → Type 0
Order s before (entry.Event line) = IsNextEvent s before line
Order s before (entry.Begin t a gateway start limit) =
    IsAtEvent before × (text : List ℕ) × IsRunning s before (events.Txn t gateway kinds.Now text)
Order s before (entry.Append range index (log.Lease lease)) = IsAtEvent before × IsRunning s before events.Begin
Order s before (entry.Append range index (log.Put a start anchor ts key value)) = IsOfAttempt s before a
Order s before (entry.Append range index (log.State a state)) = IsOfAttempt s before a
Order s before (entry.Append range index (log.Resolve a key fate)) = IsOfAttempt s before a
Order s before (entry.Serve a node range span at limit count by known) = IsOfAttempt s before a
Order s before (entry.Ack t ts results) = IsOfTxn s before t
Order s before (entry.Fault t ts state) = IsOfTxn s before t
Order s before (entry.Refuse t why) = IsOfTxn s before t
Order s before e = ⊥
