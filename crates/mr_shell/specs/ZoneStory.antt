use Rattle.std.specs.Prelude.{◌≡◌, ℕ, All, List, [], ◌∷◌, ◌++◌, Option, Some, None, Ok, Err, true}
use Rattle.scenario.specs.Lines.{Told, nothing_seen, reads, told_by}
use Rattle.scenario.specs.declared.lines.Line.{Line}
use Rattle.scenario.specs.declared.lines.Line.TheVariants as lines
use Rattle.scenario.specs.declared.seen.Seen.{Seen}
use Rattle.zone_report.specs.Laws.{StandsAsShown, without_databases}
use Rattle.zone_report.specs.Ranges.{ranges}
use Rattle.zone_report.specs.Refusals.{refused_line}
use Rattle.zone_report.specs.Statements.{CarriesOut, Zoned}
use Rattle.zone_report.specs.declared.refused.SqlRefusal.{SqlRefusal}

-- What the lines of a scenario tell that is read for its ranges alone: what is kept of them to read the next
-- one, the nodes with the catalog over them, and the lines of the statements that were refused.
pub record ZoneStory : Type 0 where
  pub seen : Seen
  pub zoned : Zoned
  pub refused : List ℕ

-- Nothing was read yet.
abbrev pub no_zone_story : ZoneStory
no_zone_story = record { seen = nothing_seen true; zoned = without_databases []; refused = [] }

-- No message is in flight, and there is no range yet.
abbrev pub nothing_told : Told
nothing_told = told_by [] [] [] []

-- The line that a statement writes: none where it is accepted.
abbrev pub answer_text : Option SqlRefusal → List ℕ
answer_text None = []
answer_text (Some refusal) = refused_line refusal

-- What a line does. A node joins the others; a statement is carried out on what is there, or refused with a
-- line that says so; any other line leaves all as it was.
abbrev pub Does : (old new : ZoneStory) → Line → Type 0
Does old new (lines.Node info clock) = (new.zoned ≡ without_databases (old.zoned.nodes ++ info ∷ [])) × (new.refused ≡ old.refused)
Does old new (lines.Sql text) =
    (answer : Option SqlRefusal) × CarriesOut text old.zoned answer new.zoned × (new.refused ≡ old.refused ++ answer_text answer)
Does old new _ = (new.zoned ≡ old.zoned) × (new.refused ≡ old.refused)

-- The next line is read without a fault, and this is told then.
abbrev pub ReadsZones : (old : ZoneStory) → (text : List ℕ) → (new : ZoneStory) → Type 0
ReadsZones old text new = (line : Line) × (reads old.seen nothing_told text ≡ Ok (line, new.seen)) × Does old new line

-- The next line has this fault.
abbrev pub HasZoneFault : ZoneStory → List ℕ → ℕ → Type 0
HasZoneFault story text fault = reads story.seen nothing_told text ≡ Err fault

-- Each range stands where the report shows it, and survives each loss that its goal names.
abbrev pub RangesStand : ZoneStory → Type 0
RangesStand story = All (StandsAsShown story.zoned.nodes) (ranges story.zoned.contents)
