use Rattle.std.specs.Prelude.{◌≡◌, ℕ, ◌+◌, List, [], Option, Some, None, Ok, length}
use Rattle.mr_base.specs.declared.nodes.NodeInfo.{NodeInfo}
use Rattle.scenario.specs.Lines.{reads}
use Rattle.scenario.specs.declared.lines.Line.{Line}
use Rattle.zone_report.specs.Statements.{Zoned}
use Rattle.mr_shell.specs.Course.{Tells}
use Rattle.mr_shell.specs.Stopped.{StopsAtLine}
use Rattle.mr_shell.specs.Texts.{Wrote}
use Rattle.mr_shell.specs.ZoneStory.{ZoneStory, nothing_told}
use Rattle.mr_shell.specs.ZonesEnded.{zones_course, zones_shown}
use Rattle.zone_report.specs.Laws.{without_databases}
use Rattle.mr_shell.specs.declared.outcome.End.{End}
use Rattle.mr_shell.specs.declared.zones_session.ZonesSession.{ZonesSession}

-- The nodes with the catalog over them, which is made once it is needed.
abbrev pub zoned_in : List NodeInfo → Option Zoned → Zoned
zoned_in nodes None = without_databases nodes
zoned_in nodes (Some zoned) = zoned

-- A session holds what a story tells, and the lines of the refused statements were written.
pub record Holds (story : ZoneStory) (session : ZonesSession) (start written : Option (List ℕ)) : Type 0 where
  pub zoned : story.zoned ≡ zoned_in session.nodes session.zones
  pub nodes : story.zoned.nodes ≡ session.nodes
  pub text : Wrote start written story.refused

-- A session once these lines were read and run, the newest first, none of them with a fault.
pub record HasRunZones (start : Option (List ℕ)) (lines : List (List ℕ)) (session : ZonesSession) (written : Option (List ℕ)) : Type 0 where
  pub story : ZoneStory
  pub tells : Tells zones_course lines story
  pub seen : session.scenario ≡ story.seen
  pub number : session.lines ≡ length lines
  pub holds : Holds story session start written

-- The same once the next line was read so, and before it is run.
pub record HasReadZones (start : Option (List ℕ)) (line : Line) (text : List ℕ) (lines : List (List ℕ)) (session : ZonesSession) (written : Option (List ℕ)) : Type 0 where
  pub story : ZoneStory
  pub tells : Tells zones_course lines story
  pub read : reads story.seen nothing_told text ≡ Ok (line, session.scenario)
  pub number : session.lines ≡ length lines + 1
  pub holds : Holds story session start written

-- Why a line ends the command, and what was written then.
abbrev pub StopsAtZones : (start : Option (List ℕ)) → End → List ℕ → List (List ℕ) → (written : Option (List ℕ)) → Type 0
StopsAtZones start end text lines written = StopsAtLine zones_course zones_shown end text lines [] start written
