use Rattle.std.specs.Prelude.{◌==◌, Bool, true, false, ◌&&◌, if◌then◌else◌, [], ◌∷◌, Option, Some, None}
use Rattle.mr_base.specs.declared.ids.AttemptId.{AttemptId}
use Rattle.mr_base.specs.declared.ids.MsgId.{MsgId}
use Rattle.mr_base.specs.declared.ids.TxnId.{TxnId}
use Rattle.mr_base.specs.declared.messages.Request.{Request}
use Rattle.mr_base.specs.declared.messages.Request.TheVariants as requests
use Rattle.range_log.specs.declared.entries.Entry.TheVariants as log
use Rattle.range_log.specs.declared.entries.TxnState.TheVariants as states
use Rattle.journal.specs.declared.entries.JournalEntry.TheVariants as entry
use Rattle.journal.specs.declared.entries.Shown.TheVariants as shown
use Rattle.journal.specs.declared.events.Event.{Event}
use Rattle.journal.specs.declared.events.Event.TheVariants as events
use Rattle.run_words.specs.Askers.{asker_of, txn_of}
use Rattle.run_words.specs.History.{Item, Made, History}
use Rattle.run_words.specs.Messages.{answered_by}
use Rattle.run_words.specs.Steps.{event_of}

-- Which requests of a transaction or an attempt are out. (This project's profile.)

-- A reply to a request is waited for: all have one but resolves.
abbrev pub has_reply : Request → Bool
has_reply (requests.Resolve attempt range keys fate) = false
has_reply _ = true

-- Where a wait has ended, nothing that is sent is waited for.
abbrev pub ends_waits : Option Event → Bool
ends_waits (Some (events.Timeout t)) = true
ends_waits _ = false

abbrev pub is_of_txn : Option TxnId → TxnId → Bool
is_of_txn None t = false
is_of_txn (Some u) t = u.0 == t.0

abbrev pub is_message : Option MsgId → MsgId → Bool
is_message None m = false
is_message (Some n) m = n.0 == m.0

abbrev pub sent_for : Option Event → (AttemptId → Option TxnId) → TxnId → MsgId → Request → Option MsgId → Option MsgId
sent_for event txns t m q old =
    if ends_waits event then old else (if is_of_txn (txns (asker_of q)) t && has_reply q then Some m else old)

abbrev pub heard_for : Option MsgId → Option MsgId → Option MsgId
heard_for None old = old
heard_for (Some request) old = if is_message old request then None else old

abbrev pub awaited_after : Item → Option Event → (AttemptId → Option TxnId) → (MsgId → Option MsgId) → TxnId → Option MsgId → Option MsgId
awaited_after (Made (entry.Sent m from to clock (shown.Request q))) event txns answered t old = sent_for event txns t m q old
awaited_after (Made (entry.Taken m)) event txns answered t old = heard_for (answered m) old
awaited_after _ event txns answered t old = old

-- The request for whose reply a transaction waits: the last that it sent, until a reply to it is taken.
abbrev pub awaited : History → TxnId → Option MsgId
awaited [] t = None
awaited (x ∷ h) t = awaited_after x (event_of h) (txn_of h) (answered_by h) t (awaited h t)

abbrev pub unless_of : AttemptId → AttemptId → Bool → Bool
unless_of b a old = if b.0 == a.0 then false else old

abbrev pub has_asked_after : Item → AttemptId → Bool → Bool
has_asked_after (Made (entry.Sent m from to clock (shown.Request q))) a old = if (asker_of q).0 == a.0 then true else old
has_asked_after (Made (entry.Begin txn b gateway start limit)) a old = unless_of b a old
has_asked_after (Made (entry.Retry txn b cause)) a old = unless_of b a old
has_asked_after (Made (entry.Serve b node range span at limit count by known)) a old = unless_of b a old
has_asked_after (Made (entry.Fated b other fate)) a old = unless_of b a old
has_asked_after (Made (entry.Append range index (log.Put b start anchor ts key value))) a old = unless_of b a old
has_asked_after (Made (entry.Append range index (log.State b (states.Committed ts)))) a old = unless_of b a old
has_asked_after _ a old = old

-- A request of an attempt was sent since the attempt's last entry.
abbrev pub has_asked : History → AttemptId → Bool
has_asked [] a = false
has_asked (x ∷ h) a = has_asked_after x a (has_asked h a)
