use Rattle.std.specs.Prelude.{◌+◌, ◌-◌, ◌==◌, if◌then◌else◌, [], ◌∷◌, Option, Some, None}
use Rattle.mr_base.specs.declared.ids.AttemptId.{AttemptId}
use Rattle.mr_base.specs.declared.ids.TxnId.{TxnId}
use Rattle.mr_base.specs.declared.timestamps.Ts.{Ts}
use Rattle.mr_base.specs.declared.settings.Kind.TheVariants as kinds
use Rattle.range_log.specs.declared.entries.RetryCause.{RetryCause}
use Rattle.range_log.specs.declared.entries.RetryCause.TheVariants as causes
use Rattle.mr_base.specs.Timestamps.{later}
use Rattle.journal.specs.declared.entries.JournalEntry.TheVariants as entry
use Rattle.journal.specs.declared.events.Event.{Event}
use Rattle.journal.specs.declared.events.Event.TheVariants as events
use Rattle.run_words.specs.History.{Item, Made, History}
use Rattle.std.specs.Option.{option_and_then, option_map}
use Rattle.run_words.specs.Puts.{greatest_with, puts}
use Rattle.run_words.specs.Steps.{event_of}
use Rattle.run_words.specs.Transactions.{last_attempt}

-- The attempts of transactions and the timestamps at which they read. (Retries above what was met: Taft et al.,
-- SIGMOD 2020; the timestamps are this project's profile.)

-- An attempt: whose it is, and at what timestamp it reads.
pub record Attempt : Type 0 where
  pub txn : TxnId
  pub read_at : Ts

-- The next timestamp of the same wall, owned by an attempt.
abbrev pub above : Ts → AttemptId → Ts
above ts a = record { wall = ts.wall; logical = ts.logical + 1; owner = a.0 }

-- Where the first attempt reads: at the start, or so long before. When a read of bounded staleness reads isn't
-- said here.
abbrev pub first_read : Option Event → Ts → AttemptId → Option Ts
first_read (Some (events.Txn t gateway kinds.Now list)) start a = Some start
first_read (Some (events.Txn t gateway (kinds.Ago ms) list)) start a =
    Some (record { wall = start.wall - ms; logical = 0; owner = a.0 })
first_read _ start a = None

-- Where the next attempt reads, after one that read at a timestamp and whose puts reach up to another: above
-- what it met.
abbrev pub next_read : RetryCause → (read_at greatest : Ts) → AttemptId → Ts
next_read (causes.Uncertain key ts) read_at greatest a = above (later ts read_at) a
next_read (causes.NewerWrite ts) read_at greatest a = above (later greatest read_at) a
next_read (causes.Pushed ts) read_at greatest a = above (later ts read_at) a

-- The attempt after one that read so and whose puts reach so far.
abbrev pub retried : TxnId → RetryCause → AttemptId → (AttemptId → Ts → Ts) → AttemptId → Option Attempt
    → Option Attempt
retried txn cause a greatest former read =
    option_map (λ r. record { txn = txn; read_at = next_read cause r.read_at (greatest former r.read_at) a }) read

abbrev pub attempt_after : Item → Option Event → (TxnId → Option AttemptId) → (AttemptId → Option Attempt)
    → (AttemptId → Ts → Ts) → AttemptId → Option Attempt → Option Attempt
attempt_after (Made (entry.Begin txn attempt gateway start limit)) event lasts before greatest a old =
    if attempt.0 == a.0
    then option_map (λ ts. record { txn = txn; read_at = ts }) (first_read event start attempt)
    else old
attempt_after (Made (entry.Retry txn attempt cause)) event lasts before greatest a old =
    if attempt.0 == a.0
    then option_and_then (λ former. retried txn cause attempt greatest former (before former)) (lasts txn)
    else old
attempt_after _ event lasts before greatest a old = old

-- The greatest of a timestamp and those of an attempt's puts.
abbrev pub greatest_put : History → AttemptId → Ts → Ts
greatest_put h a ts = greatest_with ts (puts h a)

-- An attempt, if it was begun.
abbrev pub attempt_of : History → AttemptId → Option Attempt
attempt_of [] a = None
attempt_of (x ∷ h) a =
    attempt_after x (event_of h) (last_attempt h) (attempt_of h) (greatest_put h) a (attempt_of h a)

-- The greatest of an attempt's read timestamp and those of its puts: where it commits.
abbrev pub greatest : History → AttemptId → Option Ts
greatest h a = option_map (λ attempt. greatest_put h a attempt.read_at) (attempt_of h a)
