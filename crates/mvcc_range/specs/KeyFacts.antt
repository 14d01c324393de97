use Rattle.std.specs.Prelude.{◌≡◌, ℕ, Bool, List, [], Option, None, Some, IsSome, MatchOption, if◌then◌else◌, ◌&&◌, nat_eq}
use Rattle.mr_base.specs.Timestamps.{IsBelow}
use Rattle.std.specs.Borrow.{Bor}
use Rattle.std.specs.BTreeMap.{is_at}
use Rattle.std.specs.Cmp.Lexicographic.{slice_cmp}
use Rattle.std.specs.Map.{lookup}
use Rattle.std.specs.Ordering.{is_eq, nat_cmp, ordering_then}
use Rattle.std.specs.declared.cmp.Ordering.{Ordering}
use Rattle.mr_base.specs.declared.ids.AttemptId.{AttemptId}
use Rattle.mr_base.specs.declared.messages.Fate.{Fate}
use Rattle.mr_base.specs.declared.messages.Fate.TheVariants.{Committed}
use Rattle.mr_base.specs.declared.timestamps.Ts.{Ts}
use Rattle.mvcc_range.specs.KeyValue.{KeyValue}
use Rattle.mvcc_range.specs.declared.key_state.Intent.{Intent}
use Rattle.mvcc_range.specs.declared.key_state.KeptIntent.{KeptIntent}

-- How what stands at a key is kept and changes. No clause of the crate's public functions cites this.

-- the order of timestamps
abbrev pub ts_cmp : Ts → Ts → Ordering
ts_cmp a b = ordering_then (nat_cmp a.wall b.wall) (ordering_then (nat_cmp a.logical b.logical) (nat_cmp a.owner b.owner))

abbrev pub same_ts : Ts → Ts → Bool
same_ts a b = is_eq (ts_cmp a b)

-- the value of the version of a timestamp; a version without a value is a deletion
abbrev pub version_at : Ts → KeyValue → Option (Option (List ℕ))
version_at ts s = lookup (is_at (ts_cmp ts)) s.versions

-- the greatest timestamp of a version
abbrev pub IsGreatestOf : KeyValue → Option Ts → Type 0
IsGreatestOf s answer =
    MatchOption answer
    ((q : Ts) → version_at q s ≡ None)
    (λ ts. IsSome (version_at ts s) × ((q : Ts) → IsSome (version_at q s) → ¬ IsBelow ts q))

-- the least timestamp of a version above another
abbrev pub IsFirstAbove : KeyValue → Ts → Option Ts → Type 0
IsFirstAbove s at answer =
    MatchOption answer
    ((q : Ts) → IsBelow at q → version_at q s ≡ None)
    (λ ts. IsBelow at ts × IsSome (version_at ts s) × ((q : Ts) → IsBelow at q → IsSome (version_at q s) → ¬ IsBelow q ts))

-- the newest version below a timestamp
abbrev pub IsLastBelow : KeyValue → Ts → Option (Ts × Bor (Option (List ℕ))) → Type 0
IsLastBelow s at answer =
    MatchOption answer
    ((q : Ts) → IsBelow q at → version_at q s ≡ None)
    (λ p. IsBelow p.0 at × (version_at p.0 s ≡ Some p.1.now)
    × ((q : Ts) → IsBelow q at → IsSome (version_at q s) → ¬ IsBelow p.0 q))

-- an intent without its value
abbrev pub intent_of : Option KeptIntent → Option Intent
intent_of None = None
intent_of (Some kept) = Some kept.intent

-- an intent is the attempt's
abbrev pub is_of : AttemptId → KeptIntent → Bool
is_of a kept = nat_eq kept.intent.attempt.0 a.0

-- the intent after one of the attempt was resolved
abbrev pub intent_after : AttemptId → Option KeptIntent → Option KeptIntent
intent_after a None = None
intent_after a (Some kept) = if is_of a kept then None else Some kept

-- the value at a timestamp after an intent of the attempt was resolved
abbrev pub value_after : AttemptId → Fate → Ts → Option KeptIntent → Option (Option (List ℕ)) → Option (Option (List ℕ))
value_after a (Committed ts) q (Some kept) old = if is_of a kept && same_ts ts q then Some kept.value else old
value_after a fate q kept old = old

abbrev pub same_key : List ℕ → List ℕ → Bool
same_key a b = is_eq (slice_cmp nat_cmp a b)

-- nothing stands at a key
abbrev pub nothing : KeyValue
nothing = record { versions = []; intent = None }

-- what stands at a key of a map; nothing where the map doesn't have it
abbrev pub kept_at : List ℕ → List (List ℕ × KeyValue) → Option KeyValue
kept_at key keys = lookup (is_at (slice_cmp nat_cmp key)) keys

abbrev pub state_in : Option KeyValue → KeyValue
state_in None = nothing
state_in (Some s) = s

abbrev pub state_at : List ℕ → List (List ℕ × KeyValue) → KeyValue
state_at key keys = state_in (kept_at key keys)
