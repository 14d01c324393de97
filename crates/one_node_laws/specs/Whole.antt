use Rattle.std.specs.Prelude.{◌≡◌, ◌≢◌, ⊤, List, [], ◌∷◌}
use Rattle.journal.specs.declared.entries.JournalEntry.{JournalEntry}
use Rattle.journal.specs.declared.events.Event.{Event}
use Rattle.journal.specs.declared.events.Event.TheVariants as events
use Rattle.one_node_laws.specs.LinesRun.{LinesRun, NumberedEvent}
use Rattle.one_node_laws.specs.Steps.{numbers}
use Rattle.one_node_laws.specs.Words.{Beginning, Began, lines_of, log_of, the_range}

-- What a line makes stands in a journal: the first lease for `begin`, and the beginning of a transaction.
abbrev pub IsMade : List JournalEntry → Event → Type 0
IsMade journal events.Begin = log_of the_range journal ≢ []
IsMade journal (events.Txn t gateway kind list) = (b : Beginning) × Began b journal × (b.txn ≡ t)
IsMade journal e = ⊤

abbrev pub AreMade : List JournalEntry → List NumberedEvent → Type 0
AreMade journal [] = ⊤
AreMade journal (e ∷ es) = IsMade journal e.event × AreMade journal es

-- A journal is whole for a scenario: each of its lines has its event, and what the line makes stands.
pub record IsWhole (s : LinesRun) (journal : List JournalEntry) : Type 0 where
  pub lines : lines_of journal ≡ numbers s.events
  pub made : AreMade journal s.events
