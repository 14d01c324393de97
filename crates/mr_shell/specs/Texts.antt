use Rattle.std.specs.Prelude.{◌≡◌, ◌⊎◌, ⊤, ℕ, ◌<◌, List, [], ◌++◌, Option, codes, reverse, decimal, take, length}
use Rattle.std.specs.Io.KnownBytes.{append_known}
use Rattle.std.specs.List.{flat_map}
use Rattle.journal_text.specs.EntryText.{entry_text}
use Rattle.journal.specs.declared.entries.JournalEntry.{JournalEntry}
use Rattle.journal_text.specs.declared.modes.Mode.{Mode}
use Rattle.mr_shell.specs.declared.outcome.End.{End}
use Rattle.mr_shell.specs.declared.outcome.End.TheVariants as ends

-- What a report shows, and what its sink held before.
pub record Report : Type 0 where
  pub mode : Mode
  pub start : Option (List ℕ)

abbrev pub report_to : Mode → (start : Option (List ℕ)) → Report
report_to mode start = record { mode = mode; start = start }

-- What a report of this mode shows of these entries, given the names of the transactions.
abbrev pub texts : Mode → List (List ℕ) → List JournalEntry → List ℕ
texts mode names entries = flat_map (entry_text names mode) entries

-- What it shows of a journal, whose newest entry stands first.
abbrev pub journal_text : Mode → List (List ℕ) → List JournalEntry → List ℕ
journal_text mode names journal = texts mode names (reverse journal)

-- What a sink that held `start` has been given since.
abbrev pub Wrote : (start written : Option (List ℕ)) → List ℕ → Type 0
Wrote start written text = written ≡ append_known start text

-- What a sink that held `start` has been given since is the front and a part of this text: something of it was left
-- to be written.
abbrev pub WrotePart : (start written : Option (List ℕ)) → (front text : List ℕ) → Type 0
WrotePart start written front text = (count : ℕ) × (count < length text) × Wrote start written (front ++ take count text)

-- Writing a text: it was written whole, or memory ran out before, or a write failed.
abbrev pub WritesPart : End → (text : List ℕ) → (start written : Option (List ℕ)) → Type 0
WritesPart ends.Whole text start written = Wrote start written text
WritesPart ends.Memory text start written = written ≡ start
WritesPart ends.Write text start written = WrotePart start written [] text
WritesPart _ text start written = ⊥

-- Where the writing of entries, the oldest first, stops: for want of memory between two of them, for a
-- failed write anywhere.
abbrev pub ShowsSome : End → Mode → List (List ℕ) → List JournalEntry → (start written : Option (List ℕ)) → Type 0
ShowsSome ends.Memory mode names entries start written =
    (shown unshown : List JournalEntry) × (entries ≡ shown ++ unshown) × Wrote start written (texts mode names shown)
ShowsSome ends.Write mode names entries start written = WrotePart start written [] (texts mode names entries)
ShowsSome _ mode names entries start written = ⊥

-- The line that says why a run ends, where there is one.
abbrev pub last_line : End → List ℕ
last_line (ends.Fault fault line) = codes "! S" ++ decimal fault ++ codes " line " ++ decimal line ++ codes "\n"
last_line ends.Size = codes "! size\n"
last_line _ = []

-- A last line tells of an end.
abbrev pub IsTold : End → Type 0
IsTold (ends.Fault fault line) = ⊤
IsTold ends.Size = ⊤
IsTold _ = ⊥

-- The last line has to be made.
abbrev pub IsMade : End → Type 0
IsMade (ends.Fault fault line) = ⊤
IsMade _ = ⊥

-- Saying why a run ends: the run ends so where its last line was written, for want of memory where the
-- line couldn't be made, and for a failed write where it wasn't written whole.
abbrev pub Says : (end result : End) → (start written : Option (List ℕ)) → Type 0
Says end result start written =
    ((result ≡ end) × Wrote start written (last_line end))
    ⊎ (((result ≡ ends.Memory) × IsMade end × (written ≡ start))
    ⊎ ((result ≡ ends.Write) × IsTold end × WrotePart start written [] (last_line end)))
