use Rattle.std.specs.Prelude.{◌≡◌, ◌≢◌, ℕ, ◌≤◌, ◌⊎◌, List, [], ◌∷◌, Option, Some}
use Rattle.mr_base.specs.Spans.{IsKeyBelow, InSpan}
use Rattle.mr_base.specs.Timestamps.{IsBelow}
use Rattle.mr_base.specs.declared.ids.AttemptId.{AttemptId}
use Rattle.mr_base.specs.declared.messages.Fate.{Fate}
use Rattle.mr_base.specs.declared.messages.Fate.TheVariants as fates
use Rattle.mr_base.specs.declared.messages.Known.{Known}
use Rattle.mr_base.specs.declared.spans.Span.{Span}
use Rattle.mr_base.specs.declared.timestamps.Ts.{Ts}
use Rattle.range_log.specs.Facts.{Laid, HasIntent, Version, HasVersion, IsInPlaceOf}
use Rattle.range_log.specs.declared.entries.Entry.{Entry}

-- What a read of a log gives. (Uncertainty and intents: Taft et al., SIGMOD 2020.)

-- A read: by an attempt, of a span, at a timestamp, with an uncertainty limit or none (a wall in
-- milliseconds), and with the fates that it carries of other attempts.
pub record Read : Type 0 where
  pub attempt : AttemptId
  pub span : Span
  pub at : Ts
  pub limit : Option ℕ
  pub known : List Known

-- A list tells the fate of an attempt: of several the last.
abbrev pub TellsFate : List Known → AttemptId → Fate → Type 0
TellsFate [] a f = ⊥
TellsFate (k ∷ ks) a f = TellsFate ks a f ⊎ ((k.attempt ≡ a) × (k.fate ≡ f) × ((g : Fate) → ¬ TellsFate ks a g))

-- A timestamp is at or below that of the read, or within its limit.
abbrev pub IsLookedAt : Read → Ts → Type 0
IsLookedAt read ts = (¬ IsBelow read.at ts) ⊎ ((limit : ℕ) × (read.limit ≡ Some limit) × (ts.wall ≤ limit))

-- What a read sees as a version: a version, or an intent of another attempt that it looks at and whose fate
-- it knows as committed, where the key has no version of that timestamp.
abbrev pub Sees : List Entry → Read → Version → Type 0
Sees entries read v =
    HasVersion v entries
    ⊎ ((i : Laid) × HasIntent v.key i entries × (i.attempt ≢ read.attempt) × IsLookedAt read i.ts
    × TellsFate read.known i.attempt (fates.Committed v.ts)
    × ((i.value ≡ v.value) × ((w : Version) → HasVersion w entries → ¬ IsInPlaceOf w v)))

-- A fate settles an intent for a read at a timestamp.
abbrev pub Settles : Ts → Fate → Type 0
Settles at (fates.Committed ts) = Unit {0}
Settles at fates.Aborted = Unit {0}
Settles at (fates.Pushed ts) = ¬ IsBelow ts at

-- An obstacle at a key: another's intent that no known fate settles.
abbrev pub IsUnknown : List Entry → Read → List ℕ → Laid → Type 0
IsUnknown entries read key i =
    HasIntent key i entries × (i.attempt ≢ read.attempt) × IsLookedAt read i.ts
    × ((f : Fate) → TellsFate read.known i.attempt f → ¬ Settles read.at f)

-- An obstacle at a key: a version above the read and within its limit.
abbrev pub IsUncertain : List Entry → Read → List ℕ → Ts → Type 0
IsUncertain entries read key ts =
    (v : Version) × Sees entries read v × (v.key ≡ key) × (v.ts ≡ ts) × IsBelow read.at ts × (limit : ℕ) × (read.limit ≡ Some limit)
    × (ts.wall ≤ limit)

-- There is no obstacle at a key.
abbrev pub IsClear : List Entry → Read → List ℕ → Type 0
IsClear entries read key = ((i : Laid) → ¬ IsUnknown entries read key i) × ((ts : Ts) → ¬ IsUncertain entries read key ts)

-- A read gives rows: there is no obstacle in its span.
abbrev pub GivesRows : List Entry → Read → Type 0
GivesRows entries read = (key : List ℕ) → InSpan read.span key → IsClear entries read key

-- The newest version below a timestamp that a read sees at a key.
pub record IsNewest (entries : List Entry) (read : Read) (v : Version) : Type 0 where
  pub seen : Sees entries read v
  pub below : IsBelow v.ts read.at
  pub newest : (w : Version) → Sees entries read w → w.key ≡ v.key → IsBelow w.ts read.at → ¬ IsBelow v.ts w.ts

-- A row that a read gives: the newest value below its timestamp, where that is no deletion.
abbrev pub IsRow : List Entry → Read → (key value : List ℕ) → Type 0
IsRow entries read key value = (ts : Ts) × IsNewest entries read (record { key = key; ts = ts; value = Some value })

-- The first key of the span with an obstacle, which decides where there is one: an intent before a version,
-- and of several versions the least.
abbrev pub IsFirstObstacle : List Entry → Read → List ℕ → Type 0
IsFirstObstacle entries read key =
    InSpan read.span key × (¬ IsClear entries read key)
    × ((other : List ℕ) → InSpan read.span other → IsKeyBelow other key → IsClear entries read other)

abbrev pub GivesUnknown : List Entry → Read → List ℕ → Laid → Type 0
GivesUnknown entries read key i = IsFirstObstacle entries read key × IsUnknown entries read key i

abbrev pub GivesUncertain : List Entry → Read → List ℕ → Ts → Type 0
GivesUncertain entries read key ts =
    IsFirstObstacle entries read key × ((i : Laid) → ¬ IsUnknown entries read key i) × IsUncertain entries read key ts
    × ((other : Ts) → IsUncertain entries read key other → ¬ IsBelow other ts)
