use Rattle.std.specs.Prelude.{◌↔◌, ℕ, ⊤, List, [], ◌∷◌, All, Contains, Option}
use Rattle.mr_base.specs.Spans.{InSpan, IsKeyBelow}
use Rattle.mr_base.specs.declared.ids.AttemptId.{AttemptId}
use Rattle.mr_base.specs.declared.ids.RangeId.{RangeId}
use Rattle.mr_base.specs.declared.spans.Pair.{Pair}
use Rattle.mr_base.specs.declared.timestamps.Ts.{Ts}
use Rattle.mvcc_range.specs.Answer.{GivesRows, GivesUncertain, GivesUnknown, IsRow, Read}
use Rattle.mvcc_range.specs.RefreshAnswer.{IsRefreshed, Refresh, RefreshGivesNewer, RefreshGivesUnknown}
use Rattle.mvcc_range.specs.declared.answers.ReadAnswer.{ReadAnswer}
use Rattle.mvcc_range.specs.declared.answers.ReadAnswer.TheVariants as reads
use Rattle.mvcc_range.specs.declared.answers.RefreshAnswer.{RefreshAnswer}
use Rattle.mvcc_range.specs.declared.answers.RefreshAnswer.TheVariants as refreshes
use Rattle.range_log.specs.Facts.{Laid}
use Rattle.range_log.specs.declared.entries.Entry.{Entry}

-- Answers of reads and refreshes as values.

abbrev pub pair_of : List ℕ → List ℕ → Pair
pair_of key value = record { key = key; value = value }

-- Each key is below those that follow it.
abbrev pub AreInKeyOrder : List Pair → Type 0
AreInKeyOrder [] = ⊤
AreInKeyOrder (p ∷ ps) = All (λ q. IsKeyBelow p.key q.key) ps × AreInKeyOrder ps

-- The rows of a read as a list: those of the keys of its span and no others, in key order.
pub record AreRows (entries : List Entry) (read : Read) (rows : List Pair) : Type 0 where
  pub each : (key value : List ℕ) → Contains rows (pair_of key value) ↔ (InSpan read.span key × IsRow entries read key value)
  pub order : AreInKeyOrder rows

-- An intent of this attempt, start and anchor.
abbrev pub laid_by : AttemptId → Ts → RangeId → Ts → Option (List ℕ) → Laid
laid_by attempt start anchor ts value =
    record { attempt = attempt; start = start; anchor = anchor; ts = ts; value = value }

-- A read of these entries gives this answer.
abbrev pub IsReadAnswer : List Entry → Read → ReadAnswer → Type 0
IsReadAnswer entries read (reads.Rows rows) = GivesRows entries read × AreRows entries read rows
IsReadAnswer entries read (reads.Uncertain key ts) = GivesUncertain entries read key ts
IsReadAnswer entries read (reads.Unknown key attempt start anchor) =
    (ts : Ts) × (value : Option (List ℕ)) × GivesUnknown entries read key (laid_by attempt start anchor ts value)

-- A refresh of these entries gives this answer.
abbrev pub IsRefreshAnswer : List Entry → Refresh → RefreshAnswer → Type 0
IsRefreshAnswer entries r refreshes.Done = IsRefreshed entries r
IsRefreshAnswer entries r (refreshes.NewerWrite ts) = RefreshGivesNewer entries r ts
IsRefreshAnswer entries r (refreshes.Unknown key attempt start anchor) =
    (ts : Ts) × (value : Option (List ℕ)) × RefreshGivesUnknown entries r key (laid_by attempt start anchor ts value)
