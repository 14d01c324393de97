use Rattle.std.specs.Prelude.{◌≡◌, ℕ, ◌+◌, ◌⊎◌, nat_lt, ◌==◌, ◌||◌, ◌&&◌, if◌then◌else◌, List, [], ◌∷◌, Option, Some, None}
use Rattle.mr_base.specs.Timestamps.{later}
use Rattle.mr_base.specs.declared.ids.AttemptId.{AttemptId}
use Rattle.mr_base.specs.declared.ids.NodeId.{NodeId}
use Rattle.mr_base.specs.declared.ids.RangeId.{RangeId}
use Rattle.mr_base.specs.declared.ids.TxnId.{TxnId}
use Rattle.mr_base.specs.declared.spans.Span.{Span}
use Rattle.mr_base.specs.declared.timestamps.Reading.{Reading}
use Rattle.mr_base.specs.declared.timestamps.Ts.{Ts}
use Rattle.mvcc_range.specs.Answer.{Read}
use Rattle.range_log.specs.Facts.{first_entries}
use Rattle.range_log.specs.declared.entries.Entry.{Entry}
use Rattle.range_log.specs.declared.entries.Entry.TheVariants as log
use Rattle.journal.specs.declared.entries.JournalEntry.{JournalEntry}
use Rattle.journal.specs.declared.entries.JournalEntry.TheVariants as entry

-- What is read off a journal, which is the list of its entries, the newest first.

-- The one node and the one range.
abbrev pub the_node : NodeId
the_node = record { 0 = 1 }

abbrev pub the_range : RangeId
the_range = record { 0 = 1 }

-- The boot of a node that never stopped.
abbrev pub the_first_boot : ℕ
the_first_boot = 1

-- The log of a range: the entries that were appended to it.
abbrev pub log_of : RangeId → List JournalEntry → List Entry
log_of range [] = []
log_of range (entry.Append r index e ∷ before) = if r.0 == range.0 then e ∷ log_of range before else log_of range before
log_of range (e ∷ before) = log_of range before

-- The numbers of the lines whose events stand in a journal.
abbrev pub lines_of : List JournalEntry → List ℕ
lines_of [] = []
lines_of (entry.Event line ∷ before) = line ∷ lines_of before
lines_of (e ∷ before) = lines_of before

-- How a transaction began.
pub record Beginning : Type 0 where
  pub txn : TxnId
  pub attempt : AttemptId
  pub gateway : NodeId
  pub start : Ts
  pub limit : Option ℕ

-- A transaction began so.
abbrev pub Began : Beginning → List JournalEntry → Type 0
Began b [] = ⊥
Began b (entry.Begin txn attempt gateway start limit ∷ before) =
    (b ≡ record { txn = txn; attempt = attempt; gateway = gateway; start = start; limit = limit }) ⊎ Began b before
Began b (e ∷ before) = Began b before

-- The transaction that began at the last event, if one did.
abbrev pub begun_here : List JournalEntry → Option Beginning
begun_here [] = None
begun_here (entry.Event line ∷ before) = None
begun_here (entry.Begin txn attempt gateway start limit ∷ before) =
    Some (record { txn = txn; attempt = attempt; gateway = gateway; start = start; limit = limit })
begun_here (e ∷ before) = begun_here before

-- How many attempts were begun.
abbrev pub attempts_of : List JournalEntry → ℕ
attempts_of [] = 0
attempts_of (entry.Begin txn attempt gateway start limit ∷ before) = attempts_of before + 1
attempts_of (entry.Retry txn attempt cause ∷ before) = attempts_of before + 1
attempts_of (e ∷ before) = attempts_of before

-- A transaction was answered.
abbrev pub IsAnswered : TxnId → List JournalEntry → Type 0
IsAnswered t [] = ⊥
IsAnswered t (entry.Ack txn ts results ∷ before) = (t ≡ txn) ⊎ IsAnswered t before
IsAnswered t (entry.Fault txn ts state ∷ before) = (t ≡ txn) ⊎ IsAnswered t before
IsAnswered t (entry.Refuse txn why ∷ before) = (t ≡ txn) ⊎ IsAnswered t before
IsAnswered t (entry.Lost txn ∷ before) = (t ≡ txn) ⊎ IsAnswered t before
IsAnswered t (e ∷ before) = IsAnswered t before

-- The greatest wall and logical part of the transactions' starts.
abbrev pub later_reading : Reading → Reading → Reading
later_reading a b = if nat_lt a.wall b.wall || (a.wall == b.wall && nat_lt a.logical b.logical) then b else a

abbrev pub greatest_start : List JournalEntry → Reading
greatest_start [] = record { wall = 0; logical = 0 }
greatest_start (entry.Begin txn attempt gateway start limit ∷ before) =
    later_reading (greatest_start before) (record { wall = start.wall; logical = start.logical })
greatest_start (e ∷ before) = greatest_start before

-- A read that was served, and the log that it was served from.
pub record ServedRead : Type 0 where
  pub read : Read
  pub entries : List Entry

-- A read was served, of a range.
abbrev pub WasServed : RangeId → ServedRead → List JournalEntry → Type 0
WasServed range x [] = ⊥
WasServed range x (entry.Serve attempt node r span at limit count by known ∷ before) =
    ((r ≡ range)
    × (x ≡ record {
      read = record { attempt = attempt; span = span; at = at; limit = limit; known = known };
      entries = first_entries count (log_of r before);
    }))
    ⊎ WasServed range x before
WasServed range x (e ∷ before) = WasServed range x before

-- The spans that were served to an attempt.
abbrev pub spans_served : AttemptId → List JournalEntry → List Span
spans_served a [] = []
spans_served a (entry.Serve attempt node range span at limit count by known ∷ before) =
    if attempt.0 == a.0 then span ∷ spans_served a before else spans_served a before
spans_served a (e ∷ before) = spans_served a before

-- An attempt put a value at a key, or deleted it, at a timestamp.
abbrev pub HasPut : AttemptId → List ℕ → Option (List ℕ) → Ts → List Entry → Type 0
HasPut a key value ts [] = ⊥
HasPut a key value ts (log.Put attempt start anchor at k v ∷ older) =
    ((attempt ≡ a) × (k ≡ key) × (v ≡ value) × (at ≡ ts)) ⊎ HasPut a key value ts older
HasPut a key value ts (e ∷ older) = HasPut a key value ts older

-- The greatest of a timestamp and those of an attempt's puts.
abbrev pub greatest_put : AttemptId → Ts → List Entry → Ts
greatest_put a ts [] = ts
greatest_put a ts (log.Put attempt start anchor at k v ∷ older) =
    if attempt.0 == a.0 then later (greatest_put a ts older) at else greatest_put a ts older
greatest_put a ts (e ∷ older) = greatest_put a ts older
