use Rattle.std.specs.Prelude.{◌≡◌, ◌≢◌, ℕ, List, [], ◌∷◌, Option, None, Some}
use Rattle.std.specs.Borrow.{Bor}
use Rattle.mr_base.specs.declared.ids.AttemptId.{AttemptId}
use Rattle.mr_base.specs.declared.spans.Pair.{Pair}
use Rattle.mr_base.specs.declared.timestamps.Ts.{Ts}
use Rattle.mvcc_range.specs.Answer.{Read}
use Rattle.mvcc_range.specs.KeyFacts.{state_at}
use Rattle.mvcc_range.specs.KeyValue.{KeyValue}
use Rattle.mvcc_range.specs.KeyView.{Stands}
use Rattle.mvcc_range.specs.ReadAnswers.{pair_of}
use Rattle.mvcc_range.specs.RefreshAnswer.{Refresh}
use Rattle.mvcc_range.specs.declared.answers.ReadAnswer.{ReadAnswer}
use Rattle.mvcc_range.specs.declared.answers.ReadAnswer.TheVariants as reads
use Rattle.mvcc_range.specs.declared.answers.RefreshAnswer.{RefreshAnswer}
use Rattle.mvcc_range.specs.declared.answers.RefreshAnswer.TheVariants as refreshes
use Rattle.mvcc_range.specs.declared.key_state.Intent.{Intent}
use Rattle.mvcc_range.specs.declared.key_view.Obstacle.{Obstacle}
use Rattle.mvcc_range.specs.declared.key_view.Obstacle.TheVariants as obstacles
use Rattle.range_log.specs.Facts.{HasIntent, Laid}
use Rattle.range_log.specs.declared.entries.Entry.{Entry}

-- Reads and refreshes over the keys of a span. No clause of the crate's public functions cites this.

-- what is kept at each key is what the entries say
abbrev pub AllStand : List Entry → List (List ℕ × KeyValue) → Type 0
AllStand entries keys = (key : List ℕ) → Stands entries key (state_at key keys)

-- the answer of a read that met an obstacle
abbrev pub answer_of : List ℕ → Obstacle → ReadAnswer
answer_of key (obstacles.Unknown i) = reads.Unknown key i.attempt i.start i.anchor
answer_of key (obstacles.Uncertain ts) = reads.Uncertain key ts

-- the row of a key, where it has one
abbrev pub pairs_of : List ℕ → Option (Bor (List ℕ)) → List Pair
pairs_of key None = []
pairs_of key (Some value) = pair_of key value.now ∷ []

-- the refresh from a timestamp to that of a read
abbrev pub refresh_of : Read → Ts → Refresh
refresh_of read from = record { attempt = read.attempt; span = read.span; from = from; to = read.at; known = read.known }

-- the answer of a refresh that met an intent, and of one that met none
abbrev pub unknown_of : List ℕ → Intent → RefreshAnswer
unknown_of key i = refreshes.Unknown key i.attempt i.start i.anchor

abbrev pub newer_of : Option Ts → RefreshAnswer
newer_of None = refreshes.Done
newer_of (Some ts) = refreshes.NewerWrite ts

-- the timestamp of the intent at a key that isn't the reader's
abbrev pub IsOthersAt : List Entry → AttemptId → List ℕ → Ts → Type 0
IsOthersAt entries reader key ts = (i : Laid) × HasIntent key i entries × (i.attempt ≢ reader) × (i.ts ≡ ts)
