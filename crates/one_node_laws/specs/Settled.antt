use Rattle.std.specs.Prelude.{◌≡◌, ◌≢◌, ◌⊎◌, ℕ, ◌+◌, ◌≤◌, max, ⊤, List, [], ◌∷◌}
use Rattle.mr_base.specs.declared.ids.AttemptId.{AttemptId}
use Rattle.mr_base.specs.declared.messages.Fate.TheVariants as fates
use Rattle.mr_base.specs.declared.timestamps.Ts.{Ts}
use Rattle.range_log.specs.Facts.{Laid, HasIntent, HasRecord}
use Rattle.range_log.specs.declared.entries.Entry.TheVariants as log
use Rattle.range_log.specs.declared.entries.TxnState.TheVariants as records
use Rattle.journal.specs.declared.entries.JournalEntry.{JournalEntry}
use Rattle.journal.specs.declared.entries.JournalEntry.TheVariants as entry
use Rattle.one_node_laws.specs.LinesRun.{LinesRun}
use Rattle.one_node_laws.specs.Words.{Beginning, Began, IsAnswered, log_of, the_range}

-- A timestamp of a transaction stands in an entry.
abbrev pub Shows : JournalEntry → Ts → Type 0
Shows (entry.Begin txn attempt gateway start limit) ts = ts ≡ start
Shows (entry.Serve attempt node range span at limit count by known) ts = ts ≡ at
Shows (entry.Append range index (log.Put attempt start anchor at key value)) ts = (ts ≡ start) ⊎ (ts ≡ at)
Shows (entry.Append range index (log.State attempt (records.Committed at))) ts = ts ≡ at
Shows (entry.Append range index (log.Resolve attempt key (fates.Committed at))) ts = ts ≡ at
Shows (entry.Ack txn at results) ts = ts ≡ at
Shows (entry.Fault txn at state) ts = ts ≡ at
Shows e ts = ⊥

-- Each timestamp of a transaction has a wall of at most so many milliseconds.
abbrev pub AreWithin : ℕ → List JournalEntry → Type 0
AreWithin most [] = ⊤
AreWithin most (e ∷ before) = ((ts : Ts) → Shows e ts → ts.wall ≤ most) × AreWithin most before

-- The furthest that a timestamp may be: ahead of every clock by what a write of a global table is laid ahead, or
-- by the offset of clocks, whichever is more. The one node's clock doesn't move.
abbrev pub furthest : LinesRun → ℕ
furthest s = s.clock + max s.settings.lead s.settings.max_offset

-- Settled: at the end of an event each transaction that began is answered, since on one node no request is in
-- flight and no timestamp is ahead of the clock, so that none waits; an attempt that committed has left no
-- intent; and no timestamp is further than it may be. (This project's profile.)
pub record IsSettled (s : LinesRun) (journal : List JournalEntry) : Type 0 where
  pub answered : (b : Beginning) → Began b journal → IsAnswered b.txn journal
  pub resolved : (a : AttemptId) (c : Ts) → HasRecord a (records.Committed c) (log_of the_range journal) → (key : List ℕ) (i : Laid) → HasIntent key i (log_of the_range journal) → i.attempt ≢ a
  pub within : AreWithin (furthest s) journal
