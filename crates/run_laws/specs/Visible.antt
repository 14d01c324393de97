use Rattle.std.specs.List.{Contains}
use Rattle.std.specs.Prelude.{List, Some, ℕ, ◌≡◌, ◌⊎◌}
use Rattle.journal.specs.declared.entries.JournalEntry.TheVariants as entry
use Rattle.journal.specs.declared.events.Event.TheVariants as events
use Rattle.mr_base.specs.Spans.{InSpan}
use Rattle.mr_base.specs.Timestamps.{IsBelow}
use Rattle.mr_base.specs.declared.ids.AttemptId.{AttemptId}
use Rattle.mr_base.specs.declared.ids.TxnId.{TxnId}
use Rattle.mr_base.specs.declared.settings.Kind.TheVariants as kinds
use Rattle.mr_base.specs.declared.timestamps.Ts.{Ts}
use Rattle.range_log.specs.declared.entries.Entry.TheVariants as log
use Rattle.range_log.specs.declared.entries.TxnState.TheVariants as states
use Rattle.run_words.specs.Askers.{txn_of}
use Rattle.run_words.specs.Clocks.{AreWithinOffset}
use Rattle.run_words.specs.Happened.{Happened}
use Rattle.run_words.specs.History.{History, Item, Made}
use Rattle.run_words.specs.Puts.{CommitMade, PutMade, commit, puts}
use Rattle.run_words.specs.Serving.{ServedRead, serves}
use Rattle.run_words.specs.Setup.{Setup}
use Rattle.run_words.specs.Steps.{event_of}
use Rattle.run_words.specs.Transactions.{last_attempt}

-- Visible: while clocks stay within the offset, no transaction of the present misses, in what it reads, what was
-- acknowledged before it began. (Single-key linearizability: Taft et al., SIGMOD 2020.)

-- An acknowledgement: whose, at what timestamp, and by which attempt.
pub record Acknowledgement : Type 0 where
  pub txn : TxnId
  pub ts : Ts
  pub attempt : AttemptId

abbrev pub Acknowledges : Acknowledgement → Item → History → Type 0
Acknowledges ack (Made (entry.Ack t ts results)) h = (ack.txn ≡ t) × (ack.ts ≡ ts) × (last_attempt h t ≡ Some ack.attempt)
Acknowledges ack _ h = ⊥

-- A transaction of the present begins while clocks are within the offset, after an acknowledgement.
abbrev pub BeginsAfter : Setup → Acknowledgement → TxnId → Item → History → Type 0
BeginsAfter setup ack t (Made (entry.Begin u a gateway start limit)) h =
    (u ≡ t) × ((list : List ℕ) × (event_of h ≡ Some (events.Txn t gateway kinds.Now list)))
    × AreWithinOffset setup h × Happened (Acknowledges ack) h
BeginsAfter setup ack t _ h = ⊥

-- An attempt decides its transaction at a timestamp: it commits, or it is acknowledged or has a fault without a commit.
abbrev pub DecidesAt : TxnId → AttemptId → Ts → Item → History → Type 0
DecidesAt t a ts (Made (entry.Append j index (log.State b (states.Committed c)))) h = (b ≡ a) × (txn_of h a ≡ Some t) × (c ≡ ts)
DecidesAt t a ts (Made (entry.Ack u at results)) h = (u ≡ t) × (at ≡ ts) × (last_attempt h t ≡ Some a)
DecidesAt t a ts (Made (entry.Fault u at state)) h = (u ≡ t) × (at ≡ ts) × (last_attempt h t ≡ Some a)
DecidesAt t a ts _ h = ⊥

-- An attempt put a key inside a span that was served to another.
abbrev pub PutInto : Setup → History → AttemptId → AttemptId → Type 0
PutInto setup h writer reader =
    (put : PutMade) × (served : ServedRead) × Contains (puts h writer) put × Contains (serves setup h reader) served
    × (served.range ≡ put.range) × InSpan served.read.span put.key

-- A committed attempt is of the acknowledged transaction, or what it put below that timestamp was in what that read.
abbrev pub IsShownBy : Setup → History → Acknowledgement → AttemptId → Ts → Type 0
IsShownBy setup h ack writer c = (txn_of h writer ≡ Some ack.txn) ⊎ (IsBelow c ack.ts × PutInto setup h writer ack.attempt)

-- What a transaction that was acknowledged shows, and another that began afterwards reads, is below that one.
abbrev pub IsVisible : Setup → History → Type 0
IsVisible setup h =
    (ack : Acknowledgement) (t : TxnId) (a : AttemptId) (ts : Ts) (writer : AttemptId) (made : CommitMade)
    → Happened (BeginsAfter setup ack t) h → Happened (DecidesAt t a ts) h → commit h writer ≡ Some made
    → IsShownBy setup h ack writer made.ts → PutInto setup h writer a → IsBelow made.ts ts
