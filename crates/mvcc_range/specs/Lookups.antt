use Rattle.std.specs.Prelude.{◌≡◌, ◌≢◌, ℕ, List, Option, MatchOption}
use Rattle.mr_base.specs.Spans.{InSpan}
use Rattle.mr_base.specs.Timestamps.{IsBelow}
use Rattle.mr_base.specs.declared.ids.AttemptId.{AttemptId}
use Rattle.mr_base.specs.declared.spans.Span.{Span}
use Rattle.mr_base.specs.declared.timestamps.Ts.{Ts}
use Rattle.mvcc_range.specs.declared.key_state.Intent.{Intent}
use Rattle.range_log.specs.Facts.{HasIntent, HasRecord, HasVersion, Laid, Version}
use Rattle.range_log.specs.declared.entries.Entry.{Entry}
use Rattle.range_log.specs.declared.entries.TxnState.{TxnState}

-- What a replica tells of the entries that it applied, beside what reads and refreshes give.

-- The timestamp of a version of a key.
abbrev pub IsVersionTs : List Entry → List ℕ → Ts → Type 0
IsVersionTs entries key ts = (v : Version) × HasVersion v entries × (v.key ≡ key) × (v.ts ≡ ts)

-- The newest version of a key has this timestamp; none where the key has no version.
abbrev pub IsNewestTs : List Entry → List ℕ → Option Ts → Type 0
IsNewestTs entries key answer =
    MatchOption answer
    ((ts : Ts) → ¬ IsVersionTs entries key ts)
    (λ ts. IsVersionTs entries key ts × ((other : Ts) → IsVersionTs entries key other → ¬ IsBelow ts other))

-- An intent with its value.
abbrev pub laid_as : Intent → Option (List ℕ) → Laid
laid_as i value = record { attempt = i.attempt; start = i.start; anchor = i.anchor; ts = i.ts; value = value }

-- The intent at a key; none where none stands there.
abbrev pub IsIntentAt : List Entry → List ℕ → Option Intent → Type 0
IsIntentAt entries key answer =
    MatchOption answer
    ((i : Laid) → ¬ HasIntent key i entries)
    (λ i. (value : Option (List ℕ)) × HasIntent key (laid_as i value) entries)

-- The record of an attempt; none where it has none.
abbrev pub IsStateOf : List Entry → AttemptId → Option TxnState → Type 0
IsStateOf entries a answer =
    MatchOption answer
    ((state : TxnState) → ¬ HasRecord a state entries)
    (λ state. HasRecord a state entries)

-- The timestamp of an intent in a span that isn't the reader's.
abbrev pub IsOthersTs : List Entry → Span → AttemptId → Ts → Type 0
IsOthersTs entries span reader ts =
    (key : List ℕ) × (i : Laid) × InSpan span key × HasIntent key i entries × (i.attempt ≢ reader) × (i.ts ≡ ts)

-- The least timestamp of such an intent; none where there is none. (Bounded staleness reads: CockroachDB
-- documentation.)
abbrev pub IsLowestIntent : List Entry → Span → AttemptId → Option Ts → Type 0
IsLowestIntent entries span reader answer =
    MatchOption answer
    ((ts : Ts) → ¬ IsOthersTs entries span reader ts)
    (λ ts. IsOthersTs entries span reader ts × ((other : Ts) → IsOthersTs entries span reader other → ¬ IsBelow other ts))
