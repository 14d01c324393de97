use Rattle.std.specs.Prelude.{ℕ, List, [], ◌∷◌}
use Rattle.journal.specs.declared.entries.JournalEntry.{JournalEntry}
use Rattle.journal.specs.declared.entries.JournalEntry.TheVariants as entry
use Rattle.journal.specs.declared.events.Event.{Event}

-- What happens in a run, one item after the other: a line of the scenario is run, the clocks tick inside a
-- `settle` line, or an entry of the journal is made. (This project's profile.)
pub data Item : Type 0 where
  Ran : (line : ℕ) (event : Event) → Item
  Ticked : (ms : ℕ) → Item
  Made : (made : JournalEntry) → Item

-- All that happened, the newest first.
abbrev pub History : Type 0
History = List Item

-- The journal that is kept of a history: the tick inside a `settle` line has no entry.
abbrev pub journal_of : History → List JournalEntry
journal_of [] = []
journal_of (Ran line event ∷ h) = entry.Event line ∷ journal_of h
journal_of (Made made ∷ h) = made ∷ journal_of h
journal_of (Ticked ms ∷ h) = journal_of h

-- A line of the scenario from `begin` on, with its number.
pub record Line : Type 0 where
  pub number : ℕ
  pub event : Event

-- The lines that were run, the newest first.
abbrev pub lines_of : History → List Line
lines_of [] = []
lines_of (Ran line event ∷ h) = record { number = line; event = event } ∷ lines_of h
lines_of (_ ∷ h) = lines_of h
