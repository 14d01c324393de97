use Rattle.std.specs.Prelude.{if◌then◌else◌, [], ◌∷◌, Option, Some, None}
use Rattle.mr_base.specs.declared.ids.AttemptId.{AttemptId}
use Rattle.mr_base.specs.declared.ids.NodeId.{NodeId}
use Rattle.mr_base.specs.declared.ids.RangeId.{RangeId}
use Rattle.mr_base.specs.declared.ids.TxnId.{TxnId}
use Rattle.mr_base.specs.declared.ids.MsgId.{MsgId}
use Rattle.journal.specs.declared.entries.Shown.{Shown}
use Rattle.journal.specs.declared.entries.Shown.TheVariants as shown
use Rattle.mr_base.specs.declared.messages.Request.{Request}
use Rattle.mr_base.specs.declared.messages.Request.TheVariants as requests
use Rattle.journal.specs.declared.events.Event.TheVariants as events
use Rattle.journal.specs.declared.entries.JournalEntry.TheVariants as entry
use Rattle.run_words.specs.History.{Item, Ran, Ticked, Made, History}
use Rattle.std.specs.Option.{option_and_then, option_map}
use Rattle.run_words.specs.Attempts.{attempt_of}
use Rattle.run_words.specs.Messages.{mail, answered_by}
use Rattle.run_words.specs.Transactions.{beginning, is_open}

-- In whose step of its own a gateway is. (This project's profile.)

-- The attempt that asks.
abbrev pub asker_of : Request → AttemptId
asker_of (requests.Read attempt range span at limit known) = attempt
asker_of (requests.Refresh attempt range span from at known) = attempt
asker_of (requests.Put attempt range start anchor at key value known) = attempt
asker_of (requests.PushReader attempt range other at) = attempt
asker_of (requests.PushWriter attempt range other start other_start) = attempt
asker_of (requests.Commit attempt range at) = attempt
asker_of (requests.Abort attempt range) = attempt
asker_of (requests.Resolve attempt range keys fate) = attempt

-- The range that is asked.
abbrev pub range_asked : Request → RangeId
range_asked (requests.Read attempt range span at limit known) = range
range_asked (requests.Refresh attempt range span from at known) = range
range_asked (requests.Put attempt range start anchor at key value known) = range
range_asked (requests.PushReader attempt range other at) = range
range_asked (requests.PushWriter attempt range other start other_start) = range
range_asked (requests.Commit attempt range at) = range
range_asked (requests.Abort attempt range) = range
range_asked (requests.Resolve attempt range keys fate) = range

-- The request that a message is.
abbrev pub request_of : Shown → Option Request
request_of (shown.Request request) = Some request
request_of _ = None

-- The transaction of an attempt.
abbrev pub txn_of : History → AttemptId → Option TxnId
txn_of h a = option_map (λ attempt. attempt.txn) (attempt_of h a)

-- The transaction that asked by this message.
abbrev pub asking_txn : History → MsgId → Option TxnId
asking_txn h m =
    option_and_then (λ request. txn_of h (asker_of request)) (option_and_then (λ sent. request_of sent.body) (mail h m))

abbrev pub while_open : History → TxnId → Option TxnId
while_open h t = if is_open h t then Some t else None

-- The transaction to which a message brings a reply, while that is open.
abbrev pub replied_to : History → MsgId → Option TxnId
replied_to h m = option_and_then (while_open h) (option_and_then (asking_txn h) (answered_by h m))

abbrev pub own_after : Item → (MsgId → Option TxnId) → Option TxnId → Option TxnId
own_after (Ran line (events.Timeout txn)) replied old = Some txn
own_after (Ran line event) replied old = None
own_after (Ticked ms) replied old = None
own_after (Made (entry.Apply node range count)) replied old = None
own_after (Made (entry.Begin txn attempt gateway start limit)) replied old = Some txn
own_after (Made (entry.Taken m)) replied old = replied m
own_after (Made (entry.Bounced m)) replied old = None
own_after _ replied old = old

-- The transaction in whose own step the next entry would stand. It is fixed where the step opens: where the
-- transaction begins, where its wait is ended, and where a reply to it is taken while it is open.
abbrev pub own_txn : History → Option TxnId
own_txn [] = None
own_txn (x ∷ h) = own_after x (replied_to h) (own_txn h)

-- The gateway of a transaction.
abbrev pub gateway_of : History → TxnId → Option NodeId
gateway_of h t = option_map (λ begun. begun.gateway) (beginning h t)
