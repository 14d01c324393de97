use Rattle.std.specs.Prelude.{◌≡◌, ◌++◌, ℕ, ◌+◌, List, [], ◌∷◌, length}
use Rattle.journal.specs.declared.entries.JournalEntry.{JournalEntry}

-- How a command goes through the lines of a scenario: what it knows once some lines were read, and at first; what a
-- further line of this number makes of that; when a line has a fault; and which journal is made of what is known.
pub record Course : Type 1 where
  pub State : Type 0
  pub first : State
  pub Step : (old : State) → (number : ℕ) → (line : List ℕ) → (new : State) → Type 0
  pub HasFault : State → (line : List ℕ) → (fault : ℕ) → Type 0
  pub Makes : State → (journal : List JournalEntry) → Type 0

-- What a command writes: what it shows of the lines so far, and the report behind that once every line was run.
pub record Text (State : Type 0) : Type 0 where
  pub shown : State → List JournalEntry → List ℕ
  pub report : State → List JournalEntry → List ℕ

-- These lines, the newest first, are read one after the other from the start, none of them with a fault, and this
-- is known then.
abbrev pub Tells : (c : Course) → List (List ℕ) → c.State → Type 0
Tells c [] state = state ≡ c.first
Tells c (line ∷ before) state = (earlier : c.State) × Tells c before earlier × c.Step earlier (length before + 1) line state

-- These lines were read without a fault, and this journal was made.
pub record AreRun (c : Course) (lines : List (List ℕ)) (state : c.State) (journal : List JournalEntry) : Type 0 where
  pub tells : Tells c lines state
  pub made : c.Makes state journal

-- A line was run after these lines: what was known and made before, and after.
pub record RunsLine (c : Course) (line : List ℕ) (lines : List (List ℕ)) (earlier : c.State) (before : List JournalEntry) (state : c.State) (journal : List JournalEntry) : Type 0 where
  pub were : AreRun c lines earlier before
  pub step : c.Step earlier (length lines + 1) line state
  pub made : c.Makes state journal
