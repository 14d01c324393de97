use Rattle.std.specs.Prelude.{◌≡◌, ◌≢◌, ℕ, ◌⊎◌, List, [], ◌∷◌, Option, Some, None, length, drop, ◌-◌}
use Rattle.mr_base.specs.Timestamps.{later}
use Rattle.mr_base.specs.declared.ids.AttemptId.{AttemptId}
use Rattle.mr_base.specs.declared.ids.RangeId.{RangeId}
use Rattle.mr_base.specs.declared.messages.Fate.TheVariants as fates
use Rattle.mr_base.specs.declared.timestamps.Ts.{Ts}
use Rattle.range_log.specs.declared.entries.Entry.{Entry}
use Rattle.range_log.specs.declared.entries.Entry.TheVariants as log
use Rattle.range_log.specs.declared.entries.Lease.{Lease}
use Rattle.range_log.specs.declared.entries.TxnState.{TxnState}

-- The facts of a log, which is the list of a range's entries, the newest first. (Intents, versions and
-- transaction records: Taft et al., SIGMOD 2020. Closed timestamps: VanBenschoten et al., SIGMOD 2022.)

-- What an attempt has laid at a key and not resolved. No value is a deletion.
pub record Laid : Type 0 where
  pub attempt : AttemptId
  pub start : Ts
  pub anchor : RangeId
  pub ts : Ts
  pub value : Option (List ℕ)

-- An intent stands at a key: the last put there is the attempt's, and no resolve of it there follows.
abbrev pub HasIntent : List ℕ → Laid → List Entry → Type 0
HasIntent key i [] = ⊥
HasIntent key i (log.Put attempt start anchor ts k value ∷ older) =
    ((k ≡ key) × (i ≡ record { attempt = attempt; start = start; anchor = anchor; ts = ts; value = value }))
    ⊎ ((k ≢ key) × HasIntent key i older)
HasIntent key i (log.Resolve attempt k fate ∷ older) = HasIntent key i older × (k ≡ key → attempt ≢ i.attempt)
HasIntent key i (e ∷ older) = HasIntent key i older

-- A value of a key from a timestamp on. No value is a deletion.
pub record Version : Type 0 where
  pub key : List ℕ
  pub ts : Ts
  pub value : Option (List ℕ)

-- An entry makes a version: a resolve as committed of an intent that stands, or a load.
abbrev pub Makes : Entry → List Entry → Version → Type 0
Makes (log.Resolve attempt key (fates.Committed ts)) older v =
    (v.key ≡ key) × (v.ts ≡ ts) × (i : Laid) × HasIntent key i older × (i.attempt ≡ attempt) × (i.value ≡ v.value)
Makes (log.Load ts key value) older v = v ≡ record { key = key; ts = ts; value = Some value }
Makes e older v = ⊥

-- Two versions are of one key and timestamp.
abbrev pub IsInPlaceOf : Version → Version → Type 0
IsInPlaceOf v w = (v.key ≡ w.key) × (v.ts ≡ w.ts)

-- There is a version: of several of one key and timestamp the last alone.
abbrev pub HasVersion : Version → List Entry → Type 0
HasVersion v [] = ⊥
HasVersion v (e ∷ older) = Makes e older v ⊎ (HasVersion v older × ((w : Version) → Makes e older w → ¬ IsInPlaceOf w v))

-- The last lease.
abbrev pub lease_of : List Entry → Option Lease
lease_of [] = None
lease_of (log.Lease lease ∷ older) = Some lease
lease_of (e ∷ older) = lease_of older

-- The greatest timestamp that was closed.
abbrev pub closed_of : List Entry → Ts
closed_of [] = record { wall = 0; logical = 0; owner = 0 }
closed_of (log.Close ts ∷ older) = later (closed_of older) ts
closed_of (e ∷ older) = closed_of older

-- The record of an attempt: the last entry of its state.
abbrev pub HasRecord : AttemptId → TxnState → List Entry → Type 0
HasRecord a state [] = ⊥
HasRecord a state (log.State b s ∷ older) = ((b ≡ a) × (s ≡ state)) ⊎ ((b ≢ a) × HasRecord a state older)
HasRecord a state (e ∷ older) = HasRecord a state older

-- The first so many entries of a log, as a replica has them that has applied so many.
abbrev pub first_entries : ℕ → List Entry → List Entry
first_entries n entries = drop (length entries - n) entries
