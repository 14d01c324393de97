use Rattle.std.specs.Prelude.{◌≡◌, ◌⊎◌, ℕ, ◌+◌, List, Option, length}
use Rattle.journal.specs.declared.entries.JournalEntry.{JournalEntry}
use Rattle.mr_shell.specs.Course.{AreRun, Course}
use Rattle.mr_shell.specs.LinesEnded.{ShowsAll, ShowsEntries, ShowsPart}
use Rattle.mr_shell.specs.Texts.{Wrote}
use Rattle.mr_shell.specs.declared.outcome.End.{End}
use Rattle.mr_shell.specs.declared.outcome.End.TheVariants as ends

-- Why a line ends the run of a command, and what was written then.
abbrev pub StopsAtLine : (c : Course) → (shown : c.State → List JournalEntry → List ℕ) → End → (line : List ℕ) → (lines : List (List ℕ)) → List JournalEntry → (start written : Option (List ℕ)) → Type 0
StopsAtLine c shown (ends.Fault fault number) line lines journal start written =
    (number ≡ length lines + 1)
    × (state : c.State) × c.HasFault state line fault × AreRun c lines state journal × Wrote start written (shown state journal)
StopsAtLine c shown ends.Memory line lines journal start written =
    ShowsAll c shown lines journal start written ⊎ ShowsEntries c shown line lines journal start written
StopsAtLine c shown ends.Write line lines journal start written = ShowsPart c shown line lines journal start written
StopsAtLine c shown _ line lines journal start written = ⊥
