use Rattle.std.specs.Prelude.{◌≡◌, ℕ, List, ◌∷◌, ◌++◌, Some, map}
use Rattle.mr_base.specs.declared.settings.Kind.TheVariants as kinds
use Rattle.region_sql.specs.OneColumnForms.{IsOneColumnText}
use Rattle.region_sql.specs.declared.one_column_forms.OneColumnStatement.{OneColumnStatement}
use Rattle.journal.specs.declared.entries.JournalEntry.{JournalEntry}
use Rattle.journal.specs.declared.events.Event.{Event}
use Rattle.journal.specs.declared.events.Event.TheVariants as events
use Rattle.one_node_laws.specs.LinesRun.{LinesRun, NumberedEvent}
use Rattle.one_node_laws.specs.Words.{Beginning, begun_here, lines_of, IsAnswered}

abbrev pub numbers : List NumberedEvent → List ℕ
numbers es = map (λ e. e.line) es

-- The last event of a journal is this line of the scenario.
pub record IsRunning (s : LinesRun) (before : List JournalEntry) (event : Event) : Type 0 where
  pub later : List NumberedEvent
  pub line : ℕ
  pub earlier : List NumberedEvent
  pub here : s.events ≡ later ++ record { line = line; event = event } ∷ earlier
  pub run : lines_of before ≡ line ∷ numbers earlier

-- The next entry is of the step of a transaction's gateway at its own line: the transaction began there
-- with this statement, and is open.
pub record IsStepOf (s : LinesRun) (before : List JournalEntry) (b : Beginning) (statement : OneColumnStatement) : Type 0 where
  pub begun : begun_here before ≡ Some b
  pub open_yet : ¬ IsAnswered b.txn before
  pub text : List ℕ
  pub line : IsRunning s before (events.Txn b.txn b.gateway kinds.Now text)
  pub list : IsOneColumnText text statement
