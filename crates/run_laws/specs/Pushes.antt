use Rattle.std.specs.List.{Contains}
use Rattle.std.specs.Option.{option_and_then, option_map}
use Rattle.std.specs.Prelude.{List, Option, Some, ℕ, ◌≡◌, ◌≢◌, ◌⊎◌}
use Rattle.mr_base.specs.Timestamps.{IsBelow}
use Rattle.mr_base.specs.declared.ids.AttemptId.{AttemptId}
use Rattle.mr_base.specs.declared.ids.NodeId.{NodeId}
use Rattle.mr_base.specs.declared.ids.RangeId.{RangeId}
use Rattle.mr_base.specs.declared.messages.Request.TheVariants as requests
use Rattle.mr_base.specs.declared.messages.Request.{Request}
use Rattle.mr_base.specs.declared.timestamps.Ts.{Ts}
use Rattle.range_log.specs.declared.entries.TxnState.TheVariants as states
use Rattle.range_rules.specs.Records.{IsAbortedBy, IsLeft, IsPushed}
use Rattle.range_rules.specs.Resolves.{HasIntentOf}
use Rattle.run_laws.specs.Lists.{ReadsKey, WritesKey}
use Rattle.run_laws.specs.Places.{IsHandling, stepping}
use Rattle.run_words.specs.Askers.{txn_of}
use Rattle.run_words.specs.Attempts.{Attempt, attempt_of, greatest_put}
use Rattle.run_words.specs.Clocks.{reading}
use Rattle.run_words.specs.History.{History}
use Rattle.run_words.specs.Logs.{log_of}
use Rattle.run_words.specs.Puts.{PutMade, puts, record_of}
use Rattle.run_words.specs.Setup.{Setup}
use Rattle.run_words.specs.Transactions.{beginning}

-- Pushes: how one attempt's request changes the record of another. (Taft et al., SIGMOD 2020, on pushes; who aborts
-- whom is this project's profile.)

-- The start of an attempt's transaction.
abbrev pub start_of : History → AttemptId → Option Ts
start_of h a = option_map (λ begun. begun.start) (option_and_then (beginning h) (txn_of h a))

abbrev pub IsPushBy : AttemptId → RangeId → AttemptId → Request → Type 0
IsPushBy x j a (requests.PushWriter b r other start other_start) = (b ≡ x) × (r ≡ j) × (other ≡ a)
IsPushBy x j a _ = ⊥

abbrev pub IsReaderPushBy : AttemptId → RangeId → AttemptId → Ts → Request → Type 0
IsReaderPushBy x j a ts (requests.PushReader b r other at) = (b ≡ x) × (r ≡ j) × (other ≡ a) × (at ≡ ts)
IsReaderPushBy x j a ts _ = ⊥

-- An attempt has an intent at a key that another's list writes.
abbrev pub StandsInTheWay : Setup → History → AttemptId → AttemptId → Type 0
StandsInTheWay setup h a x =
    (r : RangeId) × (key : List ℕ) × HasIntentOf a key (log_of setup h r) × WritesKey setup h x r key

-- A writer of another transaction pushes an attempt, and its push is handled here: both starts, and what the clock of
-- the one who handles it shows.
pub record IsWriterPush (setup : Setup) (h : History) (x a : AttemptId) (j : RangeId) (start other_start : Ts) (wall : ℕ) : Type 0 where
  pub place : IsHandling h x (IsPushBy x j a)
  pub other_txn : txn_of h x ≢ txn_of h a
  pub start_is : start_of h x ≡ Some start
  pub other_is : start_of h a ≡ Some other_start
  pub node : NodeId
  pub actor_is : stepping h ≡ Some node
  pub wall_is : wall ≡ (reading setup h node).wall

-- A push of an attempt is handled that aborts it: its intent is in the way of the one who pushes.
abbrev pub IsAbortByOther : Setup → History → AttemptId → RangeId → AttemptId → Type 0
IsAbortByOther setup h a j x =
    (start : Ts) × (other_start : Ts) × (wall : ℕ) × IsWriterPush setup h x a j start other_start wall × StandsInTheWay setup h a x
    × IsAbortedBy x (record_of h a) start other_start wall setup.settings.expire (states.Aborted x)

-- A reader reads or refreshes a key that the other attempt has put, at this timestamp: its read timestamp or, in a
-- refresh, its greatest put.
abbrev pub IsReaderAt : Setup → History → AttemptId → AttemptId → Ts → Type 0
IsReaderAt setup h x a at =
    (attempt : Attempt) × (attempt_of h x ≡ Some attempt)
    × ((at ≡ attempt.read_at) ⊎ ((at ≡ greatest_put h x attempt.read_at) × IsBelow attempt.read_at at))
    × (put : PutMade) × Contains (puts h a) put × ReadsKey setup h x put.range put.key

-- A reader's push of an attempt is handled, which leaves it pending above the reader's timestamp too.
abbrev pub IsPushByReader : Setup → History → AttemptId → RangeId → Ts → Type 0
IsPushByReader setup h a j y =
    (x : AttemptId) × (at : Ts) × IsHandling h x (IsReaderPushBy x j a at) × IsReaderAt setup h x a at
    × IsPushed (record_of h a) at (states.Pending y)

-- A writer's push of an attempt is handled, which leaves it as it was.
abbrev pub IsPushByWriter : Setup → History → AttemptId → RangeId → Ts → Type 0
IsPushByWriter setup h a j y =
    (x : AttemptId) × (start : Ts) × (other_start : Ts) × (wall : ℕ) × IsWriterPush setup h x a j start other_start wall
    × IsLeft (record_of h a) start other_start wall setup.settings.expire (states.Pending y)
