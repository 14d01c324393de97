use Rattle.std.specs.Prelude.{◌≡◌, ℕ, ◌-◌, ◌≤◌, Bool, List, [], ◌∷◌, ◌++◌, drop, length, map, reverse, slice_get, take}
use Rattle.journal.specs.declared.entries.JournalEntry.{JournalEntry}
use Rattle.journal.specs.declared.events.Event.{Event}
use Rattle.run_words.specs.History.{Ran, Ticked, Made, History, journal_of}
use Rattle.run_words.specs.Steps as steps
use Rattle.run_ledger.specs.declared.marks.Mark.{Mark}
use Rattle.run_ledger.specs.declared.marks.Mark.TheVariants.{Line, Tick}

-- What happened up to the last mark, newest first: each mark is a tick, or a line with its entry and its event, and
-- stands in front of the entries between it and the mark before it. All lists are newest first.
abbrev pub marked : List JournalEntry → List Mark → List Event → History
marked entries [] events = []
marked entries (Line number before ∷ marks) [] = []
marked entries (Line number before ∷ marks) (event ∷ events) =
    Ran number event ∷ (map Made (take before (drop 1 entries)) ++ marked (drop before (drop 1 entries)) marks events)
marked entries (Tick ms before ∷ marks) events =
    Ticked ms ∷ (map Made (take before entries) ++ marked (drop before entries) marks events)

-- All that happened, newest first: the entries behind the last mark, and what is before them.
abbrev pub history_of : ℕ → List JournalEntry → List Mark → List Event → History
history_of behind entries marks events =
    map Made (take behind entries) ++ marked (drop behind entries) marks events

-- What is kept beside a history agrees with it: the entries and the events of the lines, oldest first, and what
-- stands behind the last line.
pub record IsKept (h : History) (behind : ℕ) (entries : List JournalEntry) (events : List Event) (entry tick : Bool) : Type 0 where
  pub journal : journal_of h ≡ reverse entries
  pub event : steps.event_of h ≡ slice_get events (length events - 1)
  pub has_entry : steps.has_entry h ≡ entry
  pub has_ticked : steps.has_ticked h ≡ tick
  pub counted : behind ≤ length entries
