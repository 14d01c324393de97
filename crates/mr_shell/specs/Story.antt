use Rattle.std.specs.Prelude.{◌≡◌, ℕ, List, [], false}
use Rattle.journal.specs.Settings.{the_standard_settings}
use Rattle.one_node_laws.specs.LinesRun.{LinesRun, no_lines, with_line}
use Rattle.scenario.specs.FirstPath.{Reads, HasNoLine}
use Rattle.scenario.specs.FirstSeen.{Seen}
use Rattle.scenario.specs.declared.lines.Line.{Line}
use Rattle.scenario.specs.declared.lines.Line.TheVariants as lines
use Rattle.scenario.specs.declared.first_path.Expected.TheVariants as expected

-- What the lines of a scenario tell: what is kept of them to read the next one, and what the cluster runs.
pub record Story : Type 0 where
  pub seen : Seen
  pub run : LinesRun

-- Nothing was read yet.
abbrev pub no_story : Story
no_story = record {
  seen = record { zones_only = false; expected = expected.Cluster; names = [] };
  run = no_lines the_standard_settings 0;
}

-- What the cluster runs once this line, of this number, was read.
abbrev pub run_with : LinesRun → ℕ → Line → LinesRun
run_with s number (lines.Cluster settings) = no_lines settings 0
run_with s number (lines.Node info clock) = no_lines s.settings clock
run_with s number (lines.Event e) = with_line s number e
run_with s number _ = s

-- The next line, of this number, is read without a fault, and this is told then.
abbrev pub ReadsOn : (old : Story) → ℕ → (text : List ℕ) → (new : Story) → Type 0
ReadsOn old number text new = (line : Line) × Reads old.seen text line new.seen × (new.run ≡ run_with old.run number line)

-- The next line has this fault.
abbrev pub HasFault : Story → List ℕ → ℕ → Type 0
HasFault story text fault = (fault ≡ 1) × HasNoLine story.seen text
