use Rattle.std.specs.Prelude.{ℕ, ◌+◌, ◌==◌, Bool, true, false, if◌then◌else◌, List, [], ◌∷◌, Option, Some, None}
use Rattle.mr_base.specs.declared.ids.AttemptId.{AttemptId}
use Rattle.mr_base.specs.declared.ids.NodeId.{NodeId}
use Rattle.mr_base.specs.declared.ids.TxnId.{TxnId}
use Rattle.mr_base.specs.declared.timestamps.Ts.{Ts}
use Rattle.mr_base.specs.declared.settings.Kind.{Kind}
use Rattle.journal.specs.declared.entries.JournalEntry.TheVariants as entry
use Rattle.journal.specs.declared.events.Event.{Event}
use Rattle.journal.specs.declared.events.Event.TheVariants as events
use Rattle.run_words.specs.History.{Item, Made, History}
use Rattle.run_words.specs.Setup.{Setup}
use Rattle.run_words.specs.Steps.{event_of}

-- How a transaction began, and how far it is. (This project's profile.)

-- A beginning: the first attempt, the gateway, the start, the uncertainty limit (a wall in milliseconds), and
-- what its line asks for.
pub record Beginning : Type 0 where
  pub attempt : AttemptId
  pub gateway : NodeId
  pub start : Ts
  pub limit : Option ℕ
  pub kind : Kind
  pub list : List ℕ

abbrev pub beginning_after : Item → Option Event → TxnId → Option Beginning → Option Beginning
beginning_after (Made (entry.Begin txn attempt gateway start limit)) (Some (events.Txn u n kind list)) t old =
    if txn.0 == t.0
    then Some (record { attempt = attempt; gateway = gateway; start = start; limit = limit; kind = kind; list = list })
    else old
beginning_after _ event t old = old

-- How a transaction began, if it did; its kind and its statements are those of the line.
abbrev pub beginning : History → TxnId → Option Beginning
beginning [] t = None
beginning (x ∷ h) t = beginning_after x (event_of h) t (beginning h t)

abbrev pub last_after : Item → TxnId → Option AttemptId → Option AttemptId
last_after (Made (entry.Begin txn attempt gateway start limit)) t old = if txn.0 == t.0 then Some attempt else old
last_after (Made (entry.Retry txn attempt cause)) t old = if txn.0 == t.0 then Some attempt else old
last_after _ t old = old

-- The last attempt of a transaction; none before it began.
abbrev pub last_attempt : History → TxnId → Option AttemptId
last_attempt [] t = None
last_attempt (x ∷ h) t = last_after x t (last_attempt h t)

abbrev pub retries_after : Item → TxnId → ℕ → ℕ
retries_after (Made (entry.Retry txn attempt cause)) t old = if txn.0 == t.0 then old + 1 else old
retries_after _ t old = old

-- How often a transaction was tried again.
abbrev pub retries : History → TxnId → ℕ
retries [] t = 0
retries (x ∷ h) t = retries_after x t (retries h t)

abbrev pub is_open_after : Item → TxnId → Bool → Bool
is_open_after (Made (entry.Begin txn attempt gateway start limit)) t old = if txn.0 == t.0 then true else old
is_open_after (Made (entry.Ack txn ts results)) t old = if txn.0 == t.0 then false else old
is_open_after (Made (entry.Fault txn ts state)) t old = if txn.0 == t.0 then false else old
is_open_after (Made (entry.Refuse txn why)) t old = if txn.0 == t.0 then false else old
is_open_after (Made (entry.Lost txn)) t old = if txn.0 == t.0 then false else old
is_open_after _ t old = old

-- A transaction began and has no answer yet.
abbrev pub is_open : History → TxnId → Bool
is_open [] t = false
is_open (x ∷ h) t = is_open_after x t (is_open h t)

abbrev pub attempts_after : Item → ℕ → ℕ
attempts_after (Made (entry.Begin txn attempt gateway start limit)) old = old + 1
attempts_after (Made (entry.Retry txn attempt cause)) old = old + 1
attempts_after _ old = old

-- How many attempts were begun, by all transactions.
abbrev pub attempts : Setup → History → ℕ
attempts setup [] = setup.attempts
attempts setup (x ∷ h) = attempts_after x (attempts setup h)
