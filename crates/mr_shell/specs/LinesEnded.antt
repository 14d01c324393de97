use Rattle.std.specs.Prelude.{◌≡◌, ◌⊎◌, ℕ, ◌+◌, ◌<◌, List, [], ◌∷◌, ◌++◌, Option, length, take}
use Rattle.std.specs.Io.KnownBytes.{prepend_known}
use Rattle.journal.specs.declared.entries.JournalEntry.{JournalEntry}
use Rattle.mr_shell.specs.Content.{AreAllLines, AreTakenBefore, AreTakenFor, IsCut, IsWithinLimit}
use Rattle.mr_shell.specs.Course.{AreRun, Course, RunsLine, Text}
use Rattle.mr_shell.specs.Ends.{status_of}
use Rattle.mr_shell.specs.Exchange.{Exchange, held, left, start, written}
use Rattle.mr_shell.specs.Texts.{Wrote, WrotePart, last_line}
use Rattle.mr_shell.specs.declared.outcome.End.{End}
use Rattle.mr_shell.specs.declared.outcome.End.TheVariants as ends
use Rattle.mr_shell.specs.declared.outcome.Outcome.{Outcome}

-- How a command that reads a scenario has ended, whatever its course and its text are.

-- Why no line is run after these, given the bytes taken of the source and those that are left.
abbrev pub EndsAfter : (c : Course) → End → c.State → (taken : List ℕ) → (left : Option (List ℕ)) → List (List ℕ) → Type 0
EndsAfter c ends.Whole state taken left lines = AreAllLines taken left lines × IsWithinLimit taken
EndsAfter c (ends.Fault fault number) state taken left lines =
    (line : List ℕ) × AreTakenFor taken left (line ∷ lines) × c.HasFault state line fault × (number ≡ length lines + 1)
    × IsWithinLimit taken
EndsAfter c ends.Read state taken left lines = (rest : List ℕ) × IsCut taken lines rest × IsWithinLimit taken
EndsAfter c ends.Size state taken left lines =
    (first rest : List ℕ) × (beyond : ℕ) × (taken ≡ first ++ beyond ∷ []) × (length first ≡ 16777216) × IsCut first lines rest
EndsAfter c _ state taken left lines = ⊥

-- What is written behind the text of the lines: the report where every line was run, else the line that says why
-- the run ends, where there is one.
abbrev pub behind : {State : Type 0} → Text State → End → State → List JournalEntry → List ℕ
behind text ends.Whole state journal = text.report state journal
behind text end state journal = last_line end

-- Some lines were run, the run ends so after them, and P holds of what they show and of what is behind that.
abbrev pub EndsWriting : (c : Course) → Text c.State → (P : (shown behind : List ℕ) → Type 0) → End → (taken : List ℕ) → (left : Option (List ℕ)) → List JournalEntry → Type 0
EndsWriting c text P end taken left journal =
    (lines : List (List ℕ)) × (state : c.State) × AreRun c lines state journal × EndsAfter c end state taken left lines
    × P (text.shown state journal) (behind text end state journal)

-- All that these lines show was written.
abbrev pub ShowsAll : (c : Course) → (shown : c.State → List JournalEntry → List ℕ) → List (List ℕ) → List JournalEntry → (start written : Option (List ℕ)) → Type 0
ShowsAll c shown lines journal start written = (state : c.State) × AreRun c lines state journal × Wrote start written (shown state journal)

-- A line was run, and the lines of a prefix of the journal were written, which has those of every line before it.
abbrev pub ShowsEntries : (c : Course) → (shown : c.State → List JournalEntry → List ℕ) → List ℕ → List (List ℕ) → List JournalEntry → (start written : Option (List ℕ)) → Type 0
ShowsEntries c shown line lines journal start written =
    (earlier state : c.State) × (before some more : List JournalEntry) × RunsLine c line lines earlier before state journal
    × (journal ≡ more ++ (some ++ before)) × Wrote start written (shown state (some ++ before))

-- A line was run, and a part of what it shows was written behind what the lines before it show.
abbrev pub ShowsPart : (c : Course) → (shown : c.State → List JournalEntry → List ℕ) → List ℕ → List (List ℕ) → List JournalEntry → (start written : Option (List ℕ)) → Type 0
ShowsPart c shown line lines journal start written =
    (earlier state : c.State) × (before more : List JournalEntry) × RunsLine c line lines earlier before state journal
    × (journal ≡ more ++ before) × (fresh : List ℕ) × (shown state journal ≡ shown earlier before ++ fresh)
    × WrotePart start written (shown earlier before) fresh

-- Memory ran out, between two lines or while a line was run.
abbrev pub EndsShort : (c : Course) → Text c.State → (taken : List ℕ) → (left : Option (List ℕ)) → List JournalEntry → (start written : Option (List ℕ)) → Type 0
EndsShort c text taken left journal start written =
    ((lines : List (List ℕ)) × AreTakenBefore taken left lines × ShowsAll c text.shown lines journal start written)
    ⊎ ((line : List ℕ) × (lines : List (List ℕ)) × AreTakenFor taken left (line ∷ lines) × ShowsEntries c text.shown line lines journal start written)

-- A write failed, of what a line shows.
abbrev pub EndsUnshown : (c : Course) → Text c.State → (taken : List ℕ) → (left : Option (List ℕ)) → List JournalEntry → (start written : Option (List ℕ)) → Type 0
EndsUnshown c text taken left journal start written =
    (line : List ℕ) × (lines : List (List ℕ)) × AreTakenFor taken left (line ∷ lines) × ShowsPart c text.shown line lines journal start written

-- A write failed, of what is written behind the lines.
abbrev pub EndsUnsaid : (c : Course) → Text c.State → (taken : List ℕ) → (left : Option (List ℕ)) → List JournalEntry → (start written : Option (List ℕ)) → Type 0
EndsUnsaid c text taken left journal start written =
    (end : End) × EndsWriting c text (λ shown said. WrotePart start written shown said) end taken left journal

-- How a run has ended, and what was written then.
abbrev pub HasEnded : (c : Course) → Text c.State → End → (taken : List ℕ) → (left : Option (List ℕ)) → List JournalEntry → (start written : Option (List ℕ)) → Type 0
HasEnded c text ends.Memory taken left journal start written = IsWithinLimit taken × EndsShort c text taken left journal start written
HasEnded c text ends.Write taken left journal start written =
    (IsWithinLimit taken × EndsUnshown c text taken left journal start written) ⊎ EndsUnsaid c text taken left journal start written
HasEnded c text end taken left journal start written = EndsWriting c text (λ shown said. Wrote start written (shown ++ said)) end taken left journal

-- A command of this course and this text has taken bytes from its source and has ended, with this status.
pub record LinesEnded {S K : Type 0} (c : Course) (text : Text c.State) (o : Outcome) (x : Exchange S K) : Type 0 where
  pub end : End
  pub taken : List ℕ
  pub status : o.status ≡ status_of end
  pub told : held x ≡ prepend_known taken (left x)
  pub ended : HasEnded c text end taken (left x) o.journal (start x) (written x)
