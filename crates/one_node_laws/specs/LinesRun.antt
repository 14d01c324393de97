use Rattle.std.specs.Prelude.{◌≢◌, ℕ, ◌<◌, ⊤, List, [], ◌∷◌}
use Rattle.mr_base.specs.declared.ids.TxnId.{TxnId}
use Rattle.mr_base.specs.declared.settings.Settings.{Settings}
use Rattle.journal.specs.declared.events.Event.{Event}
use Rattle.journal.specs.declared.events.Event.TheVariants as events

-- A line of a scenario from `begin` on, with its number.
pub record NumberedEvent : Type 0 where
  pub line : ℕ
  pub event : Event

-- The lines of a scenario that are run: the settings, the physical clock that the `node` line gives, in
-- milliseconds, and the lines from `begin` on, the newest first.
pub record LinesRun : Type 0 where
  pub settings : Settings
  pub clock : ℕ
  pub events : List NumberedEvent

-- Nothing is run yet.
abbrev pub no_lines : Settings → ℕ → LinesRun
no_lines settings clock = record { settings = settings; clock = clock; events = [] }

-- A further line is run.
abbrev pub with_line : LinesRun → ℕ → Event → LinesRun
with_line s line event = record { settings = s.settings; clock = s.clock; events = record { line = line; event = event } ∷ s.events }

-- The event isn't the line of this transaction.
abbrev pub IsNotOf : TxnId → Event → Type 0
IsNotOf t (events.Txn u gateway kind list) = u ≢ t
IsNotOf t _ = ⊤

-- Each of these lines has a lower number, and none is the line of this transaction.
abbrev pub AreBefore : ℕ → List NumberedEvent → Type 0
AreBefore line [] = ⊤
AreBefore line (e ∷ es) = (e.line < line) × AreBefore line es

abbrev pub AreNotOf : TxnId → List NumberedEvent → Type 0
AreNotOf t [] = ⊤
AreNotOf t (e ∷ es) = IsNotOf t e.event × AreNotOf t es

-- The transaction of an event has no line yet.
abbrev pub IsNewAmong : Event → List NumberedEvent → Type 0
IsNewAmong (events.Txn t gateway kind list) es = AreNotOf t es
IsNewAmong _ es = ⊤

-- A line may be the next: its number is above those of the lines before, and its transaction is new.
abbrev pub IsNextLine : LinesRun → ℕ → Event → Type 0
IsNextLine s line event = AreBefore line s.events × IsNewAmong event s.events
