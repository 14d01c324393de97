use Rattle.std.specs.Prelude.{◌≡◌, ◌≢◌, ℕ, ◌+◌, ◌<◌, ◌^◌, [], List, Option, length}
use Rattle.mr_base.specs.declared.settings.Settings.{Settings}
use Rattle.scenario.specs.FirstPath.{Reads}
use Rattle.journal.specs.Names.{NamesOnly}
use Rattle.scenario.specs.FirstSeen.{Seen}
use Rattle.journal.specs.declared.entries.JournalEntry.{JournalEntry}
use Rattle.scenario.specs.declared.lines.Line.{Line}
use Rattle.scenario.specs.declared.lines.Line.TheVariants as lines
use Rattle.scenario.specs.declared.first_path.Expected.TheVariants as expected
use Rattle.one_node.specs.Bounds.{AreSettings}
use Rattle.one_node.specs.Cluster.{IsRunOf, IsStep}
use Rattle.one_node.specs.View.{View}
use Rattle.mr_shell.specs.Course.{Tells}
use Rattle.mr_shell.specs.RunEnded.{run_course, run_shown}
use Rattle.mr_shell.specs.Stopped.{StopsAtLine}
use Rattle.mr_shell.specs.Story.{Story}
use Rattle.mr_shell.specs.Texts.{Report, Wrote}
use Rattle.mr_shell.specs.declared.outcome.End.{End}
use Rattle.mr_shell.specs.declared.session.Session.{Session}

-- The next line may be run: the cluster has entries exactly where `begin` was read.
pub record IsReady (settings : Settings) (seen : Seen) (journal : List JournalEntry) : Type 0 where
  pub durations : AreSettings settings
  pub begun : seen.expected ≡ expected.Transaction → journal ≢ []
  pub unbegun : seen.expected ≢ expected.Transaction → journal ≡ []

-- A line that was read may be run.
abbrev pub MayRun : Settings → Seen → View → Line → Type 0
MayRun settings seen cluster (lines.Cluster new) = AreSettings new × (seen.expected ≢ expected.Transaction) × (cluster.journal ≡ [])
MayRun settings seen cluster (lines.Node info clock) = (clock < 2 ^ 53) × AreSettings settings × (seen.expected ≢ expected.Transaction) × (cluster.journal ≡ [])
MayRun settings seen cluster (lines.Event e) = AreSettings settings × IsStep cluster e × (seen.expected ≡ expected.Transaction)
MayRun settings seen cluster _ = IsReady settings seen cluster.journal

-- The cluster has run what a story tells, and its journal's text was written, to a sink that held `start`.
pub record Follows (story : Story) (settings : Settings) (cluster : View) (report : Report) (written : Option (List ℕ)) : Type 0 where
  pub made : settings ≡ story.run.settings
  pub run : IsRunOf story.run cluster
  pub names : NamesOnly (λ t. t.0 < length story.seen.names) cluster.journal
  pub text : Wrote report.start written (run_shown report.mode story cluster.journal)

-- A session that makes this report, once these lines were read and run, the newest first, none of them with a fault.
pub record HasRun (report : Report) (lines : List (List ℕ)) (session : Session) (written : Option (List ℕ)) : Type 0 where
  pub story : Story
  pub tells : Tells run_course lines story
  pub seen : session.scenario ≡ story.seen
  pub shown : session.mode ≡ report.mode
  pub number : session.lines ≡ length lines
  pub follows : Follows story session.settings session.cluster report written

-- The same once the next line was read so, and before it is run.
pub record HasRead (report : Report) (line : Line) (text : List ℕ) (lines : List (List ℕ)) (session : Session) (written : Option (List ℕ)) : Type 0 where
  pub story : Story
  pub tells : Tells run_course lines story
  pub read : Reads story.seen text line session.scenario
  pub shown : session.mode ≡ report.mode
  pub number : session.lines ≡ length lines + 1
  pub follows : Follows story session.settings session.cluster report written

-- Why a line ends the run, and what was written then.
abbrev pub StopsAt : Report → End → List ℕ → List (List ℕ) → List JournalEntry → (written : Option (List ℕ)) → Type 0
StopsAt report end text lines journal written = StopsAtLine run_course (run_shown report.mode) end text lines journal report.start written
