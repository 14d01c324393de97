use Rattle.std.specs.Prelude.{◌≡◌, ℕ, List, []}
use Rattle.journal.specs.declared.entries.JournalEntry.{JournalEntry}
use Rattle.zone_report.specs.Report.{report_text}
use Rattle.zone_report.specs.declared.report.Format.{Format}
use Rattle.mr_shell.specs.Course.{Course, Tells, Text}
use Rattle.mr_shell.specs.Exchange.{Exchange, held}
use Rattle.mr_shell.specs.Gives.{LinesGive}
use Rattle.mr_shell.specs.LinesEnded.{LinesEnded}
use Rattle.mr_shell.specs.Meaning.{Meaning}
use Rattle.mr_shell.specs.ZoneStory.{HasZoneFault, RangesStand, ReadsZones, ZoneStory, no_zone_story}
use Rattle.mr_shell.specs.declared.outcome.Outcome.{Outcome}

-- The command `zones`.

-- Its lines tell of nodes and of statements, and make no entry.
abbrev pub zones_course : Course
zones_course = record { State = ZoneStory; first = no_zone_story; Step = λ old number line new. ReadsZones old line new; HasFault = HasZoneFault; Makes = λ story journal. journal ≡ [] }

-- It shows the lines of the refused statements in their order, and behind them reports all ranges.
abbrev pub zones_shown : ZoneStory → List JournalEntry → List ℕ
zones_shown story journal = story.refused

abbrev pub zones_text : Format → Text ZoneStory
zones_text format = record { shown = zones_shown; report = λ story journal. report_text format story.zoned }

-- The ranges of a scenario were written so, and no entry was made. Whatever lines tell: each range stands where the
-- report shows it, and survives each loss that its goal names.
pub record ZonesEnded {S K : Type 0} (format : Format) (o : Outcome) (x : Exchange S K) : Type 0 where
  pub ended : LinesEnded zones_course (zones_text format) o x
  pub nothing_run : o.journal ≡ []
  pub stand : (lines : List (List ℕ)) (story : ZoneStory) → Tells zones_course lines story → RangesStand story

abbrev pub zones_meaning : {S K : Type 0} → Format → Meaning S K
zones_meaning format = record { Ended = λ o x. ZonesEnded format o x; Gives = λ x status. LinesGive zones_course (held x) status }
