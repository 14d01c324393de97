use Rattle.std.specs.Prelude.{◌≡◌, ◌≢◌, ℕ, ◌+◌, ◌⊎◌, ⊤, List, Option, Some}
use Rattle.mr_base.specs.Spans.{InSpan}
use Rattle.mr_base.specs.Timestamps.{IsBelow}
use Rattle.mr_base.specs.declared.ids.AttemptId.{AttemptId}
use Rattle.mr_base.specs.declared.ids.RangeId.{RangeId}
use Rattle.mr_base.specs.declared.timestamps.Ts.{Ts}
use Rattle.range_log.specs.Facts.{HasIntent, HasRecord, HasVersion, Version, lease_of, closed_of}
use Rattle.range_log.specs.Facts as facts
use Rattle.range_log.specs.declared.entries.Entry.TheVariants as log
use Rattle.range_log.specs.declared.entries.Lease.{Lease}
use Rattle.range_log.specs.declared.entries.TxnState.{TxnState}
use Rattle.region_sql.specs.declared.one_column_forms.OneColumnStatement.{OneColumnStatement}
use Rattle.journal.specs.declared.entries.JournalEntry.{JournalEntry}
use Rattle.journal.specs.declared.entries.JournalEntry.TheVariants as entry
use Rattle.one_node_laws.specs.LinesRun.{LinesRun}
use Rattle.one_node_laws.specs.Steps.{IsStepOf}
use Rattle.one_node_laws.specs.Words.{Beginning, ServedRead, WasServed, HasPut, greatest_put, log_of}

-- Something stands at a timestamp in the way of an attempt's put at a key: another's read that covers the
-- key, a version of the key, the closed timestamp or the low water of the lease.
abbrev pub StandsInTheWay : List JournalEntry → RangeId → AttemptId → List ℕ → Ts → Type 0
StandsInTheWay before range a key ts =
    ((x : ServedRead) × WasServed range x before × (x.read.attempt ≢ a) × InSpan x.read.span key × (x.read.at ≡ ts))
    ⊎ (((v : Version) × HasVersion v (log_of range before) × (v.key ≡ key) × (v.ts ≡ ts))
    ⊎ ((closed_of (log_of range before) ≡ ts)
    ⊎ ((lease : Lease) × (lease_of (log_of range before) ≡ Some lease) × (lease.low ≡ ts))))

-- A put is laid where it was asked, or directly above what stands in its way above that.
abbrev pub IsLaidAt : List JournalEntry → RangeId → AttemptId → List ℕ → (asked p : Ts) → Type 0
IsLaidAt before range a key asked p =
    (p ≡ asked)
    ⊎ ((f : Ts) × StandsInTheWay before range a key f × IsBelow asked f
    × (p ≡ record { wall = f.wall; logical = f.logical + 1; owner = a.0 }))

-- A put: nothing that stands in its way is above it, no other's intent stands at its key, it is its attempt's
-- first there, and its attempt has no record yet.
pub record IsPutLaid (s : LinesRun) (before : List JournalEntry) (range : RangeId) (a : AttemptId) (start : Ts) (anchor : RangeId) (p : Ts) (key : List ℕ) : Type 0 where
  pub beginning : Beginning
  pub statement : OneColumnStatement
  pub step : IsStepOf s before beginning statement
  pub attempt : beginning.attempt ≡ a
  pub start_is : start ≡ beginning.start
  pub anchor_is : anchor ≡ range
  pub clear : (ts : Ts) → StandsInTheWay before range a key ts → ¬ IsBelow p ts
  pub alone : (i : facts.Laid) → HasIntent key i (log_of range before) → i.attempt ≡ a
  pub first : (value : Option (List ℕ)) (ts : Ts) → ¬ HasPut a key value ts (log_of range before)
  pub undecided : (state : TxnState) → ¬ HasRecord a state (log_of range before)
  pub at : IsLaidAt before range a key (greatest_put a beginning.start (log_of range before)) p

-- Laid: each put is so. (The timestamp cache and closed timestamps: Taft et al., SIGMOD 2020; the amount by
-- which a put is moved is this project's profile.)
abbrev pub Laid : LinesRun → List JournalEntry → JournalEntry → Type 0
Laid s before (entry.Append range index (log.Put a start anchor ts key value)) = IsPutLaid s before range a start anchor ts key
Laid s before e = ⊤
