use Rattle.std.specs.Prelude.{◌≡◌, ◌⊎◌, ℕ, ◌+◌, ◌<◌, ◌≤◌, List, [], ◌∷◌, ◌++◌, Option, length}
use Rattle.std.specs.Io.KnownBytes.{prepend_known}
use Rattle.mr_shell.specs.Content.{AreAllLines, AreLines, IsCut, IsWithinLimit}
use Rattle.mr_shell.specs.declared.outcome.End.{End}
use Rattle.mr_shell.specs.declared.outcome.End.TheVariants as ends

-- How lines are run from the pieces of a source, whatever runs them. HasRun says that these lines were run,
-- the newest first, and what was written; StopsAt that the run has ended at a line after them.

-- Bytes were taken: their lines were run, and the rest waits for its end.
pub record HasTaken {R : Type 0} (HasRun : List (List ℕ) → R → Option (List ℕ) → Type 0) (taken : List ℕ) (runner : R) (pending : List ℕ) (written : Option (List ℕ)) : Type 0 where
  pub lines : List (List ℕ)
  pub cut : IsCut taken lines pending
  pub run : HasRun lines runner written

-- A run has ended at the line whose end is that of the front of what was taken, or for want of memory behind the front;
-- what was taken ahead came with the last of these many bytes.
pub record StopsWithin {R : Type 0} (HasRun : List (List ℕ) → R → Option (List ℕ) → Type 0) (StopsAt : End → List ℕ → List (List ℕ) → R → Option (List ℕ) → Type 0) (end : End) (taken : List ℕ) (many : ℕ) (runner : R) (written : Option (List ℕ)) : Type 0 where
  pub front : List ℕ
  pub ahead : List ℕ
  pub whole : taken ≡ front ++ ahead
  pub piece : length ahead < many
  pub stops : ((text : List ℕ) × (lines : List (List ℕ)) × AreLines front (text ∷ lines) × StopsAt end text lines runner written)
      ⊎ ((end ≡ ends.Memory) × (lines : List (List ℕ)) × (rest : List ℕ) × IsCut front lines rest × HasRun lines runner written)

-- A run has ended within the limit, at a line or for want of memory between two lines.
abbrev pub StopsInside : {R : Type 0} → (List (List ℕ) → R → Option (List ℕ) → Type 0) → (End → List ℕ → List (List ℕ) → R → Option (List ℕ) → Type 0) → End → (taken : List ℕ) → (left : Option (List ℕ)) → R → (written : Option (List ℕ)) → Type 0
StopsInside HasRun StopsAt end taken left runner written =
    IsWithinLimit taken
    × (StopsWithin HasRun StopsAt end taken 65536 runner written
    ⊎ ((text : List ℕ) × (lines : List (List ℕ)) × AreAllLines taken left (text ∷ lines) × StopsAt end text lines runner written))

-- Why a run ends, before anything is said of it, given the bytes taken of the source and those that are left.
abbrev pub Stops : {R : Type 0} → (List (List ℕ) → R → Option (List ℕ) → Type 0) → (End → List ℕ → List (List ℕ) → R → Option (List ℕ) → Type 0) → End → (taken : List ℕ) → (left : Option (List ℕ)) → R → (written : Option (List ℕ)) → Type 0
Stops HasRun StopsAt ends.Whole taken left runner written =
    (lines : List (List ℕ)) × AreAllLines taken left lines × IsWithinLimit taken × HasRun lines runner written
Stops HasRun StopsAt ends.Read taken left runner written =
    (lines : List (List ℕ)) × (rest : List ℕ) × IsCut taken lines rest × IsWithinLimit taken × HasRun lines runner written
Stops HasRun StopsAt ends.Size taken left runner written =
    (lines : List (List ℕ)) × (first rest : List ℕ) × (beyond : ℕ) × (taken ≡ first ++ beyond ∷ []) × (length first ≡ 16777216)
    × IsCut first lines rest × HasRun lines runner written
Stops HasRun StopsAt ends.Usage taken left runner written = ⊥
Stops HasRun StopsAt (ends.Fault fault number) taken left runner written = StopsInside HasRun StopsAt (ends.Fault fault number) taken left runner written
Stops HasRun StopsAt ends.Write taken left runner written = StopsInside HasRun StopsAt ends.Write taken left runner written
Stops HasRun StopsAt ends.Memory taken left runner written = StopsInside HasRun StopsAt ends.Memory taken left runner written

-- Some bytes were taken of a source, and P holds of them.
abbrev pub AfterTaking : (old new : Option (List ℕ)) → (List ℕ → Type 0) → Type 0
AfterTaking old new P = (taken : List ℕ) × (old ≡ prepend_known taken new) × P taken
