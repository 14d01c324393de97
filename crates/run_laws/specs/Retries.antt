use Rattle.std.specs.List.{Contains}
use Rattle.std.specs.Prelude.{List, Some, ℕ, ◌+◌, ◌<◌, ◌≡◌, ◌≢◌, ◌≤◌}
use Rattle.journal.specs.declared.entries.JournalEntry.TheVariants as entry
use Rattle.mr_base.specs.Spans.{InSpan}
use Rattle.mr_base.specs.Timestamps.{IsBelow}
use Rattle.mr_base.specs.declared.ids.AttemptId.{AttemptId}
use Rattle.mr_base.specs.declared.ids.RangeId.{RangeId}
use Rattle.mr_base.specs.declared.ids.TxnId.{TxnId}
use Rattle.mr_base.specs.declared.spans.Ask.{Ask}
use Rattle.mr_base.specs.declared.timestamps.Ts.{Ts}
use Rattle.range_log.specs.declared.entries.Entry.TheVariants as log
use Rattle.range_log.specs.declared.entries.RetryCause.TheVariants as causes
use Rattle.range_log.specs.declared.entries.RetryCause.{RetryCause}
use Rattle.range_log.specs.declared.entries.TxnState.TheVariants as states
use Rattle.run_laws.specs.Lists.{AsksNext, WasServedKey}
use Rattle.run_laws.specs.Pushes.{IsWriterPush, StandsInTheWay}
use Rattle.run_words.specs.Attempts.{Attempt, attempt_of, greatest_put}
use Rattle.run_words.specs.Happened.{Happened}
use Rattle.run_words.specs.History.{History, Item, Made}
use Rattle.run_words.specs.Puts.{CommitMade, PutMade, commit, puts, record_of}
use Rattle.run_words.specs.Setup.{Setup}
use Rattle.run_words.specs.Transactions.{Beginning, beginning, last_attempt, retries}

-- When an attempt is tried again, or its transaction is refused for what another did. (Taft et al., SIGMOD 2020, on
-- uncertainty restarts, read refreshes and pushes.)

-- Another attempt put a key, and committed at a timestamp.
abbrev pub WroteAt : History → AttemptId → RangeId → List ℕ → Ts → Type 0
WroteAt h a j key ts =
    (b : AttemptId) × (made : CommitMade) × (put : PutMade) × (b ≢ a) × (commit h b ≡ Some made) × (made.ts ≡ ts)
    × Contains (puts h b) put × (put.range ≡ j) × (put.key ≡ key)

-- What another wrote at a key that the attempt reads next is above its read timestamp and within its limit.
pub record MeetsUncertain (setup : Setup) (h : History) (a : AttemptId) (key : List ℕ) (ts : Ts) : Type 0 where
  pub attempt : Attempt
  pub is_attempt : attempt_of h a ≡ Some attempt
  pub begun : Beginning
  pub is_begun : beginning h attempt.txn ≡ Some begun
  pub limit : ℕ
  pub limit_is : begun.limit ≡ Some limit
  pub ask : Ask
  pub next : AsksNext setup h a ask
  pub inside : InSpan ask.span key
  pub wrote : WroteAt h a ask.range key ts
  pub above_it : IsBelow attempt.read_at ts
  pub within : ts.wall ≤ limit

-- What another wrote at a key that the attempt was served is between its read timestamp and its greatest put.
pub record MeetsNewer (setup : Setup) (h : History) (a : AttemptId) (ts : Ts) : Type 0 where
  pub attempt : Attempt
  pub is_attempt : attempt_of h a ≡ Some attempt
  pub range : RangeId
  pub key : List ℕ
  pub served : WasServedKey setup h a range key
  pub wrote : WroteAt h a range key ts
  pub above_it : IsBelow attempt.read_at ts
  pub below : IsBelow ts (greatest_put h a attempt.read_at)

abbrev pub IsPending : AttemptId → Ts → Item → History → Type 0
IsPending a ts (Made (entry.Append j index (log.State b (states.Pending y)))) h = (b ≡ a) × (y ≡ ts)
IsPending a ts _ h = ⊥

-- The attempt's record was pending above a timestamp that is above what the attempt would commit at.
pub record WasPushed (h : History) (a : AttemptId) (ts : Ts) : Type 0 where
  pub attempt : Attempt
  pub is_attempt : attempt_of h a ≡ Some attempt
  pub pending : Happened (IsPending a ts) h
  pub above_it : IsBelow (greatest_put h a attempt.read_at) ts

abbrev pub MustRetry : Setup → History → AttemptId → RetryCause → Type 0
MustRetry setup h a (causes.Uncertain key ts) = MeetsUncertain setup h a key ts
MustRetry setup h a (causes.NewerWrite ts) = MeetsNewer setup h a ts
MustRetry setup h a (causes.Pushed ts) = WasPushed h a ts

-- A transaction is tried again so many times at most.
abbrev pub retry_limit : ℕ
retry_limit = 64

-- A cause to try again stands, and the transaction may be.
pub record IsRetryCaused (setup : Setup) (h : History) (t : TxnId) (cause : RetryCause) : Type 0 where
  pub attempt : AttemptId
  pub last : last_attempt h t ≡ Some attempt
  pub cause_is : MustRetry setup h attempt cause
  pub few : retries h t < retry_limit

-- A cause to try again stands, and the transaction was tried again as often as may be.
pub record HasNoRetry (setup : Setup) (h : History) (t : TxnId) : Type 0 where
  pub attempt : AttemptId
  pub last : last_attempt h t ≡ Some attempt
  pub cause : RetryCause
  pub cause_is : MustRetry setup h attempt cause
  pub many : retries h t ≡ retry_limit

-- A push of another attempt by this one left that pending: it began before, and wasn't expired by the clock of the one
-- who handled the push, where its intent stood at a key that this one writes.
abbrev pub WasLeftLive : Setup → AttemptId → AttemptId → Item → History → Type 0
WasLeftLive setup a other (Made (entry.Append j index (log.State b (states.Pending y)))) h =
    (b ≡ other) × (start : Ts) × (other_start : Ts) × (wall : ℕ) × IsWriterPush setup h a other j start other_start wall
    × StandsInTheWay setup h other a × IsBelow other_start start × (wall ≤ other_start.wall + setup.settings.expire)
WasLeftLive setup a other _ h = ⊥

-- An older attempt that is live has an intent in the way.
pub record HasConflict (setup : Setup) (h : History) (t : TxnId) (other : AttemptId) : Type 0 where
  pub attempt : AttemptId
  pub last : last_attempt h t ≡ Some attempt
  pub live : Happened (WasLeftLive setup attempt other) h

-- The record says that another attempt aborted this one.
pub record WasAborted (h : History) (t : TxnId) (by : AttemptId) : Type 0 where
  pub attempt : AttemptId
  pub last : last_attempt h t ≡ Some attempt
  pub other : by ≢ attempt
  pub says : record_of h attempt ≡ Some (states.Aborted by)
