use Rattle.std.specs.Prelude.{◌≡◌, ◌⊎◌, ℕ, List, [], ◌∷◌, Option, Some}
use Rattle.mr_base.specs.Spans.{InSpan}
use Rattle.mr_base.specs.Timestamps.{IsBelow}
use Rattle.mr_base.specs.declared.ids.AttemptId.{AttemptId}
use Rattle.mr_base.specs.declared.timestamps.Ts.{Ts}
use Rattle.range_log.specs.Facts.{HasRecord}
use Rattle.range_log.specs.declared.entries.Entry.TheVariants as log
use Rattle.range_log.specs.declared.entries.TxnState.TheVariants as records
use Rattle.journal.specs.declared.entries.JournalEntry.{JournalEntry}
use Rattle.journal.specs.declared.entries.JournalEntry.TheVariants as entry
use Rattle.one_node_laws.specs.Words.{Beginning, ServedRead, WasServed, HasPut, begun_here, log_of, the_range}

-- A transaction that was acknowledged: how it began, and the timestamp of its answer.
pub record Acked : Type 0 where
  pub beginning : Beginning
  pub ts : Ts

abbrev pub WasAcked : Acked → List JournalEntry → Type 0
WasAcked x [] = ⊥
WasAcked x (entry.Ack t ts results ∷ before) =
    ((begun_here before ≡ Some x.beginning) × (x.beginning.txn ≡ t) × (x.ts ≡ ts)) ⊎ WasAcked x before
WasAcked x (e ∷ before) = WasAcked x before

-- A transaction began after another was acknowledged.
abbrev pub BeganAfter : Beginning → Acked → List JournalEntry → Type 0
BeganAfter b x [] = ⊥
BeganAfter b x (entry.Begin txn attempt gateway start limit ∷ before) =
    ((b ≡ record { txn = txn; attempt = attempt; gateway = gateway; start = start; limit = limit }) × WasAcked x before) ⊎ BeganAfter b x before
BeganAfter b x (e ∷ before) = BeganAfter b x before

-- A transaction was decided at a timestamp: by its commit, its acknowledgement or its fault.
abbrev pub WasDecidedAt : Beginning → Ts → List JournalEntry → Type 0
WasDecidedAt b ts [] = ⊥
WasDecidedAt b ts (entry.Append range index (log.State a (records.Committed c)) ∷ before) =
    ((begun_here before ≡ Some b) × (ts ≡ c)) ⊎ WasDecidedAt b ts before
WasDecidedAt b ts (entry.Ack t at results ∷ before) = ((begun_here before ≡ Some b) × (ts ≡ at)) ⊎ WasDecidedAt b ts before
WasDecidedAt b ts (entry.Fault t at state ∷ before) = ((begun_here before ≡ Some b) × (ts ≡ at)) ⊎ WasDecidedAt b ts before
WasDecidedAt b ts (e ∷ before) = WasDecidedAt b ts before

-- A writer put a key inside a span that was served to a transaction's attempt.
pub record WroteInto (journal : List JournalEntry) (writer : AttemptId) (reader : Beginning) : Type 0 where
  pub key : List ℕ
  pub value : Option (List ℕ)
  pub laid : Ts
  pub put : HasPut writer key value laid (log_of the_range journal)
  pub served : ServedRead
  pub was_served : WasServed the_range served journal
  pub own : served.read.attempt ≡ reader.attempt
  pub inside : InSpan served.read.span key

-- A writer committed at a timestamp that the acknowledged transaction shows: it is that transaction, whose
-- timestamp no other has, or it wrote below it into what that transaction read.
abbrev pub IsShown : List JournalEntry → Acked → (writer : AttemptId) (commit : Ts) → Type 0
IsShown journal x writer commit = (commit ≡ x.ts) ⊎ (IsBelow commit x.ts × WroteInto journal writer x.beginning)

-- Visible: a transaction that began after another was acknowledged misses, in what it reads, nothing that
-- the other shows: what wrote there has a timestamp below its own. On one node no clock differs from
-- another, so that this holds at all times. (Taft et al., SIGMOD 2020, on single-key linearizability.)
abbrev pub IsVisible : List JournalEntry → Type 0
IsVisible journal =
    (x : Acked) (b : Beginning) (ts : Ts) (writer : AttemptId) (commit : Ts) → BeganAfter b x journal → WasDecidedAt b ts journal
    → HasRecord writer (records.Committed commit) (log_of the_range journal) → IsShown journal x writer commit → WroteInto journal writer b → IsBelow commit ts
