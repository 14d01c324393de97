use Rattle.std.specs.Prelude.{ℕ, ◌==◌, if◌then◌else◌, List, [], ◌∷◌, Option, Some, None}
use Rattle.mr_base.specs.declared.ids.AttemptId.{AttemptId}
use Rattle.mr_base.specs.declared.ids.RangeId.{RangeId}
use Rattle.mr_base.specs.declared.ids.MsgId.{MsgId}
use Rattle.mr_base.specs.declared.timestamps.Ts.{Ts}
use Rattle.mr_base.specs.declared.messages.Fate.TheVariants as fates
use Rattle.mr_base.specs.declared.messages.Fate.{Fate}
use Rattle.mr_base.specs.Timestamps.{later}
use Rattle.range_log.specs.declared.entries.Entry.TheVariants as log
use Rattle.range_log.specs.declared.entries.TxnState.{TxnState}
use Rattle.range_log.specs.declared.entries.TxnState.TheVariants as states
use Rattle.journal.specs.declared.entries.JournalEntry.TheVariants as entry
use Rattle.run_words.specs.History.{Item, Made, History}
use Rattle.run_words.specs.Messages.{handled}
use Rattle.std.specs.Option.{option_map}

-- What an attempt has written: its puts, its record, its commit. (Intents and transaction records: Taft et al.,
-- SIGMOD 2020.)

-- A put, with the request in whose step it was laid, where that wasn't the gateway's own.
pub record PutMade : Type 0 where
  pub range : RangeId
  pub start : Ts
  pub anchor : RangeId
  pub ts : Ts
  pub key : List ℕ
  pub value : Option (List ℕ)
  pub via : Option MsgId

abbrev pub puts_after : Item → Option MsgId → AttemptId → List PutMade → List PutMade
puts_after (Made (entry.Append range index (log.Put attempt start anchor ts key value))) via a old =
    if attempt.0 == a.0
    then record { range = range; start = start; anchor = anchor; ts = ts; key = key; value = value; via = via } ∷ old
    else old
puts_after _ via a old = old

-- The puts of an attempt in all ranges, the newest first.
abbrev pub puts : History → AttemptId → List PutMade
puts [] a = []
puts (x ∷ h) a = puts_after x (handled h) a (puts h a)

-- The greatest of a timestamp and those of puts.
abbrev pub greatest_with : Ts → List PutMade → Ts
greatest_with ts [] = ts
greatest_with ts (put ∷ older) = later (greatest_with ts older) put.ts

abbrev pub record_after : Item → AttemptId → Option TxnState → Option TxnState
record_after (Made (entry.Append range index (log.State attempt state))) a old =
    if attempt.0 == a.0 then Some state else old
record_after _ a old = old

-- The record of an attempt: its last state, in whatever range that stands.
abbrev pub record_of : History → AttemptId → Option TxnState
record_of [] a = None
record_of (x ∷ h) a = record_after x a (record_of h a)

-- What a record says of the attempt's writes.
abbrev pub fate_of : TxnState → Fate
fate_of (states.Pending ts) = fates.Pushed ts
fate_of (states.Committed ts) = fates.Committed ts
fate_of (states.Aborted by) = fates.Aborted

-- The fate that the record of an attempt shows.
abbrev pub fate_shown : History → AttemptId → Option Fate
fate_shown h a = option_map fate_of (record_of h a)

-- The commit of an attempt, with the request in whose step it was made, where that wasn't the gateway's own.
pub record CommitMade : Type 0 where
  pub range : RangeId
  pub ts : Ts
  pub via : Option MsgId

abbrev pub commit_after : Item → Option MsgId → AttemptId → Option CommitMade → Option CommitMade
commit_after (Made (entry.Append range index (log.State attempt (states.Committed ts)))) via a old =
    if attempt.0 == a.0 then Some (record { range = range; ts = ts; via = via }) else old
commit_after _ via a old = old

abbrev pub commit : History → AttemptId → Option CommitMade
commit [] a = None
commit (x ∷ h) a = commit_after x (handled h) a (commit h a)
