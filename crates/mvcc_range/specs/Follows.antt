use Rattle.std.specs.Prelude.{◌≡◌, ℕ, ◌&&◌, List, [], ◌∷◌, Option, None, Some, if◌then◌else◌, length}
use Rattle.std.specs.BTreeMap.{is_at}
use Rattle.std.specs.Map.{lookup}
use Rattle.std.specs.Ordering.{is_eq, nat_cmp}
use Rattle.std.specs.declared.cmp.Ordering.{Ordering}
use Rattle.mr_base.specs.declared.ids.AttemptId.{AttemptId}
use Rattle.mr_base.specs.declared.ids.RangeId.{RangeId}
use Rattle.mr_base.specs.declared.timestamps.Ts.{Ts}
use Rattle.mvcc_range.specs.KeyFacts.{intent_after, same_key, same_ts, state_at, value_after, version_at}
use Rattle.mvcc_range.specs.KeyValue.{KeyValue}
use Rattle.mvcc_range.specs.declared.key_state.KeptIntent.{KeptIntent}
use Rattle.range_log.specs.Facts.{closed_of, lease_of}
use Rattle.range_log.specs.declared.entries.Entry.{Entry}
use Rattle.range_log.specs.declared.entries.Entry.TheVariants as log
use Rattle.range_log.specs.declared.entries.Lease.{Lease}
use Rattle.range_log.specs.declared.entries.TxnState.{TxnState}

-- The entries that a replica applied. What is inside is the crate's own: others see the relation `Follows` alone.

-- A replica as contracts see it: what stands at each key, the records, the last lease, what was closed, and how
-- many entries it applied.
pub record ReplicaValue : Type 0 where
  pub keys : List (List ℕ × KeyValue)
  pub states : List (AttemptId × TxnState)
  pub lease : Option Lease
  pub closed : Ts
  pub applied : ℕ

abbrev pub kept_intent : AttemptId → Ts → RangeId → Ts → Option (List ℕ) → KeptIntent
kept_intent attempt start anchor ts value =
    record { intent = record { attempt = attempt; start = start; anchor = anchor; ts = ts }; value = value }

-- the intent that stands at a key
abbrev pub intent_at : List ℕ → List Entry → Option KeptIntent
intent_at key [] = None
intent_at key (log.Put attempt start anchor ts k value ∷ older) =
    if same_key k key then Some (kept_intent attempt start anchor ts value) else intent_at key older
intent_at key (log.Resolve attempt k fate ∷ older) =
    if same_key k key then intent_after attempt (intent_at key older) else intent_at key older
intent_at key (e ∷ older) = intent_at key older

-- the value of the version of a key and timestamp
abbrev pub value_at : List ℕ → Ts → List Entry → Option (Option (List ℕ))
value_at key r [] = None
value_at key r (log.Resolve attempt k fate ∷ older) =
    if same_key k key then value_after attempt fate r (intent_at key older) (value_at key r older) else value_at key r older
value_at key r (log.Load ts k value ∷ older) =
    if same_key k key && same_ts ts r then Some (Some value) else value_at key r older
value_at key r (e ∷ older) = value_at key r older

abbrev pub attempt_cmp : AttemptId → AttemptId → Ordering
attempt_cmp a b = nat_cmp a.0 b.0

-- the record of an attempt in a list of records
abbrev pub record_in : AttemptId → List (AttemptId × TxnState) → Option TxnState
record_in a states = lookup (is_at (attempt_cmp a)) states

-- the record of an attempt
abbrev pub record_at : AttemptId → List Entry → Option TxnState
record_at a [] = None
record_at a (log.State b state ∷ older) = if is_eq (attempt_cmp b a) then Some state else record_at a older
record_at a (e ∷ older) = record_at a older

-- what is kept is what the entries say
pub record AreFacts (keys : List (List ℕ × KeyValue)) (states : List (AttemptId × TxnState)) (lease : Option Lease) (closed : Ts) (entries : List Entry) : Type 0 where
  pub intents : (key : List ℕ) → (state_at key keys).intent ≡ intent_at key entries
  pub versions : (key : List ℕ) (r : Ts) → version_at r (state_at key keys) ≡ value_at key r entries
  pub states_are : (a : AttemptId) → record_in a states ≡ record_at a entries
  pub lease_is : lease ≡ lease_of entries
  pub closed_is : closed ≡ closed_of entries

-- A replica has applied these entries, the newest first, and no others.
pub record Follows (r : ReplicaValue) (entries : List Entry) : Type 0 where
  pub facts : AreFacts r.keys r.states r.lease r.closed entries
  pub count : r.applied ≡ length entries
