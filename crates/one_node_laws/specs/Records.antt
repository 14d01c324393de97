use Rattle.std.specs.Prelude.{◌≡◌, ℕ, ⊤, List, Option}
use Rattle.mr_base.specs.Timestamps.{IsBelow}
use Rattle.mr_base.specs.declared.ids.AttemptId.{AttemptId}
use Rattle.mr_base.specs.declared.ids.RangeId.{RangeId}
use Rattle.mr_base.specs.declared.messages.Fate.{Fate}
use Rattle.mr_base.specs.declared.messages.Fate.TheVariants as fates
use Rattle.mr_base.specs.declared.timestamps.Ts.{Ts}
use Rattle.range_log.specs.Facts.{Laid, HasIntent, HasRecord}
use Rattle.range_log.specs.declared.entries.Entry.TheVariants as log
use Rattle.range_log.specs.declared.entries.TxnState.{TxnState}
use Rattle.range_log.specs.declared.entries.TxnState.TheVariants as records
use Rattle.journal.specs.declared.entries.JournalEntry.{JournalEntry}
use Rattle.journal.specs.declared.entries.JournalEntry.TheVariants as entry
use Rattle.one_node_laws.specs.LinesRun.{LinesRun}
use Rattle.one_node_laws.specs.Words.{HasPut, log_of, the_range}

-- A commit: the attempt had no record, and none of its puts lies above it. The record stands at the anchor.
pub record IsCommit (before : List JournalEntry) (range : RangeId) (a : AttemptId) (c : Ts) : Type 0 where
  pub anchor : range ≡ the_range
  pub fresh : (state : TxnState) → ¬ HasRecord a state (log_of range before)
  pub puts : (key : List ℕ) (value : Option (List ℕ)) (ts : Ts) → HasPut a key value ts (log_of range before) → ¬ IsBelow c ts

-- A resolve repeats the record of its attempt, whose intent stands there.
pub record IsResolved (before : List JournalEntry) (range : RangeId) (a : AttemptId) (key : List ℕ) (fate : Fate) : Type 0 where
  pub ts : Ts
  pub fate_is : fate ≡ fates.Committed ts
  pub decided : HasRecord a (records.Committed ts) (log_of range before)
  pub intent : Laid
  pub stands : HasIntent key intent (log_of range before)
  pub own : intent.attempt ≡ a

-- Records: an attempt's record is made once, by its own commit, and its intents are resolved by it. Pushes
-- and aborts don't come on one node. (Transaction records: Taft et al., SIGMOD 2020.)
abbrev pub Records : LinesRun → List JournalEntry → JournalEntry → Type 0
Records s before (entry.Append range index (log.State a (records.Committed c))) = IsCommit before range a c
Records s before (entry.Append range index (log.State a state)) = ⊥
Records s before (entry.Append range index (log.Resolve a key fate)) = IsResolved before range a key fate
Records s before e = ⊤
