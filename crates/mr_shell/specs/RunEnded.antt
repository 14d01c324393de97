use Rattle.std.specs.Prelude.{ℕ, ◌<◌, List, []}
use Rattle.journal.specs.declared.entries.JournalEntry.{JournalEntry}
use Rattle.journal_text.specs.declared.modes.Mode.{Mode}
use Rattle.one_node_laws.specs.Answered.{AreAnswered}
use Rattle.one_node_laws.specs.Runs.{IsRun}
use Rattle.one_node_laws.specs.Serial.{IsSerial}
use Rattle.one_node_laws.specs.Visible.{IsVisible}
use Rattle.mr_shell.specs.Course.{Course, Text}
use Rattle.mr_shell.specs.Exchange.{Exchange, held}
use Rattle.mr_shell.specs.Gives.{LinesGive}
use Rattle.mr_shell.specs.LinesEnded.{LinesEnded}
use Rattle.mr_shell.specs.Meaning.{Meaning}
use Rattle.mr_shell.specs.Story.{HasFault, ReadsOn, Story, no_story}
use Rattle.mr_shell.specs.Texts.{journal_text}
use Rattle.mr_shell.specs.declared.outcome.Outcome.{Outcome}

-- The command `run`.

-- Its lines tell a story, and the journal is a run of that.
abbrev pub run_course : Course
run_course = record { State = Story; first = no_story; Step = ReadsOn; HasFault = HasFault; Makes = λ story journal. IsRun story.run journal }

-- It shows of the journal what the mode says, by the names that the transactions have, and nothing behind that.
abbrev pub run_shown : Mode → Story → List JournalEntry → List ℕ
run_shown mode story journal = journal_text mode story.seen.names journal

abbrev pub run_text : Mode → Text Story
run_text mode = record { shown = run_shown mode; report = λ story journal. [] }

-- A scenario was run so. Whatever the journal is a run of, for that it is serial; it is visible; and where a lease
-- lasts longer than the offset of clocks, each transaction has its rows or its serial fault.
pub record RunEnded {S K : Type 0} (mode : Mode) (o : Outcome) (x : Exchange S K) : Type 0 where
  pub ended : LinesEnded run_course (run_text mode) o x
  pub serial : (story : Story) → IsRun story.run o.journal → IsSerial story.run o.journal
  pub visible : IsVisible o.journal
  pub answered : (story : Story) → IsRun story.run o.journal → story.run.settings.max_offset < story.run.settings.lease → AreAnswered o.journal

abbrev pub run_meaning : {S K : Type 0} → Mode → Meaning S K
run_meaning mode = record { Ended = λ o x. RunEnded mode o x; Gives = λ x status. LinesGive run_course (held x) status }
