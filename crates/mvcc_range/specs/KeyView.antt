use Rattle.std.specs.Prelude.{◌≡◌, ◌≢◌, ℕ, List, Option, None, Some, MatchOption, if◌then◌else◌, fold, nat_eq}
use Rattle.std.specs.Borrow.{Bor}
use Rattle.mr_base.specs.Timestamps.{IsBelow, ts_lt}
use Rattle.mr_base.specs.declared.ids.AttemptId.{AttemptId}
use Rattle.mr_base.specs.declared.messages.Fate.{Fate}
use Rattle.mr_base.specs.declared.messages.Fate.TheVariants as fates
use Rattle.mr_base.specs.declared.messages.Known.{Known}
use Rattle.mr_base.specs.declared.timestamps.Ts.{Ts}
use Rattle.mvcc_range.specs.Answer.{IsLookedAt, IsNewest, IsRow, IsUncertain, IsUnknown, Read, Sees, TellsFate}
use Rattle.mvcc_range.specs.Follows.{intent_at, value_at}
use Rattle.mvcc_range.specs.KeyFacts.{version_at}
use Rattle.mvcc_range.specs.KeyValue.{KeyValue}
use Rattle.mvcc_range.specs.Lookups.{laid_as}
use Rattle.mvcc_range.specs.declared.key_state.Intent.{Intent}
use Rattle.mvcc_range.specs.declared.key_state.KeptIntent.{KeptIntent}
use Rattle.mvcc_range.specs.declared.key_view.Obstacle.{Obstacle}
use Rattle.mvcc_range.specs.declared.key_view.Obstacle.TheVariants as obstacles
use Rattle.mvcc_range.specs.declared.read_view.ReadView.{ReadView}
use Rattle.range_log.specs.Facts.{HasIntent, Laid, Version}
use Rattle.range_log.specs.declared.entries.Entry.{Entry}

-- What a read sees at one key. No clause of the crate's public functions cites this.

abbrev pub as_read : ReadView → Read
as_read r = record { attempt = r.attempt; span = r.span.now; at = r.at; limit = r.limit; known = r.known.now }

-- what is kept at a key is what the entries say
pub record Stands (entries : List Entry) (key : List ℕ) (s : KeyValue) : Type 0 where
  pub intent : s.intent ≡ intent_at key entries
  pub versions : (r : Ts) → version_at r s ≡ value_at key r entries

-- the fate of an attempt, of several the last
abbrev pub last_fate : AttemptId → List Known → Option Fate
last_fate a known = fold (λ last k. if nat_eq k.attempt.0 a.0 then Some k.fate else last) None known

-- the least of the timestamps of a kind; none where there is none
abbrev pub IsLeast : (Ts → Type 0) → Option Ts → Type 0
IsLeast P answer = MatchOption answer ((ts : Ts) → ¬ P ts) (λ ts. P ts × ((other : Ts) → P other → ¬ IsBelow other ts))

abbrev pub lesser_of : Option Ts → Option Ts → Option Ts
lesser_of None b = b
lesser_of (Some x) None = Some x
lesser_of (Some x) (Some y) = Some (if ts_lt y x then y else x)

-- another attempt's intent that the read looks at
abbrev pub IsOther : List Entry → Read → List ℕ → Laid → Type 0
IsOther entries read key i = HasIntent key i entries × (i.attempt ≢ read.attempt) × IsLookedAt read i.ts

abbrev pub laid_of : KeptIntent → Laid
laid_of k = laid_as k.intent k.value

abbrev pub IsOthers : List Entry → Read → List ℕ → Option (Bor KeptIntent) → Type 0
IsOthers entries read key answer =
    MatchOption answer
    ((i : Laid) → ¬ IsOther entries read key i)
    (λ k. IsOther entries read key (laid_of k.now) × ((i : Laid) → IsOther entries read key i → i ≡ laid_of k.now))

-- the read knows such an intent as committed
abbrev pub IsTold : List Entry → Read → List ℕ → Laid → Ts → Type 0
IsTold entries read key i ts = IsOther entries read key i × TellsFate read.known i.attempt (fates.Committed ts)

abbrev pub IsTheTold : List Entry → Read → List ℕ → Option (Ts × Bor (Option (List ℕ))) → Type 0
IsTheTold entries read key answer =
    MatchOption answer
    ((i : Laid) (ts : Ts) → ¬ IsTold entries read key i ts)
    (λ p. (i : Laid) × IsTold entries read key i p.0 × (i.value ≡ p.1.now)
    × ((j : Laid) (ts : Ts) → IsTold entries read key j ts → (j ≡ i) × (ts ≡ p.0)))

abbrev pub HasNoUnknown : List Entry → Read → List ℕ → Type 0
HasNoUnknown entries read key = (i : Laid) → ¬ IsUnknown entries read key i

abbrev pub IsTheUnknown : List Entry → Read → List ℕ → Option Intent → Type 0
IsTheUnknown entries read key answer =
    MatchOption answer
    (HasNoUnknown entries read key)
    (λ i. (value : Option (List ℕ)) × IsUnknown entries read key (laid_as i value))

-- the timestamp, above another, of what the read sees as a version of the key
abbrev pub IsSeenAbove : List Entry → Read → Ts → List ℕ → Ts → Type 0
IsSeenAbove entries read above key ts =
    (v : Version) × Sees entries read v × (v.key ≡ key) × (v.ts ≡ ts) × IsBelow above ts

abbrev pub IsNewerAt : List Entry → Read → Ts → List ℕ → Ts → Type 0
IsNewerAt entries read from key ts = IsSeenAbove entries read from key ts × IsBelow ts read.at

abbrev pub IsToldAbove : List Entry → Read → Ts → List ℕ → Ts → Type 0
IsToldAbove entries read above key ts = IsBelow above ts × (i : Laid) × IsTold entries read key i ts

-- the intent that the read knows as committed below it
abbrev pub IsToldBelow : List Entry → Read → List ℕ → Option (Ts × Bor (Option (List ℕ))) → Type 0
IsToldBelow entries read key answer =
    MatchOption answer
    ((i : Laid) (ts : Ts) → IsTold entries read key i ts → ¬ IsBelow ts read.at)
    (λ p. IsBelow p.0 read.at × (i : Laid) × IsTold entries read key i p.0 × (i.value ≡ p.1.now)
    × ((j : Laid) (ts : Ts) → IsTold entries read key j ts → ts ≡ p.0))

-- the later of a version and an intent known as committed; the version where they are of one timestamp
abbrev pub later_of : {X : Type 0} → Option (Ts × X) → Option (Ts × X) → Option (Ts × X)
later_of None told = told
later_of (Some v) None = Some v
later_of (Some v) (Some t) = if ts_lt v.0 t.0 then Some t else Some v

-- the newest that the read sees of the key below it
abbrev pub IsNewestAt : List Entry → Read → List ℕ → Option (Ts × Bor (Option (List ℕ))) → Type 0
IsNewestAt entries read key answer =
    MatchOption answer
    ((v : Version) → Sees entries read v → v.key ≡ key → ¬ IsBelow v.ts read.at)
    (λ p. IsNewest entries read (record { key = key; ts = p.0; value = p.1.now }))

-- what stands in the way of the read at the key
abbrev pub IsObstacleAt : List Entry → Read → List ℕ → Obstacle → Type 0
IsObstacleAt entries read key (obstacles.Unknown i) = (value : Option (List ℕ)) × IsUnknown entries read key (laid_as i value)
IsObstacleAt entries read key (obstacles.Uncertain ts) =
    HasNoUnknown entries read key × IsUncertain entries read key ts
    × ((other : Ts) → IsUncertain entries read key other → ¬ IsBelow other ts)

-- the value that the read gives of the key
abbrev pub IsTheRow : List Entry → Read → List ℕ → Option (Bor (List ℕ)) → Type 0
IsTheRow entries read key answer =
    MatchOption answer ((value : List ℕ) → ¬ IsRow entries read key value) (λ v. IsRow entries read key v.now)
