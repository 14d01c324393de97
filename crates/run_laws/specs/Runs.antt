use Rattle.std.specs.Prelude.{List, ⊤, ◌≡◌}
use Rattle.journal.specs.declared.entries.JournalEntry.{JournalEntry}
use Rattle.run_laws.specs.Caused.{IsCaused}
use Rattle.run_laws.specs.Lawful.{IsLawful}
use Rattle.run_laws.specs.Near.{IsNear}
use Rattle.run_laws.specs.Resolving.{EndsStep, HasResolved}
use Rattle.run_laws.specs.Settled.{IsSettledAt}
use Rattle.run_laws.specs.Whole.{IsWholeAt}
use Rattle.run_words.specs.Happened.{Always}
use Rattle.run_words.specs.History.{History, Item, Line, Ran, journal_of, lines_of}
use Rattle.run_words.specs.Setup.{Setup}

-- What a run is: lawful, with each refusal caused and the near replica first; and settled and whole at the end of each
-- line. (This project's profile.)

abbrev pub IsLine : Item → Type 0
IsLine (Ran line event) = ⊤
IsLine _ = ⊥

-- At each earlier end of a line, which the next line shows.
abbrev pub AtEachLine : (History → Type 0) → History → Type 0
AtEachLine P h = Always (λ x older. IsLine x → P older) h

-- At each end of a step.
abbrev pub AtEachStep : (History → Type 0) → History → Type 0
AtEachStep P h = Always (λ x older. EndsStep x → P older) h

-- A history may be a run that was cut off anywhere.
pub record IsPartOfRun (setup : Setup) (h : History) : Type 0 where
  pub lawful : IsLawful setup h
  pub caused : IsCaused setup h
  pub near : IsNear setup h
  pub settled : AtEachLine (IsSettledAt setup) h
  pub resolved : AtEachStep (HasResolved setup) h
  pub whole : AtEachLine (IsWholeAt setup) h

-- A history is a run up to the end of its last line.
pub record IsRun (setup : Setup) (h : History) : Type 0 where
  pub part : IsPartOfRun setup h
  pub settled : IsSettledAt setup h
  pub resolved : HasResolved setup h
  pub whole : IsWholeAt setup h

-- A journal is a run of these lines, the newest first: some history has this journal, and ran these lines.
abbrev pub IsRunOf : Setup → List JournalEntry → List Line → Type 0
IsRunOf setup journal lines = (h : History) × IsRun setup h × (journal_of h ≡ journal) × (lines_of h ≡ lines)
