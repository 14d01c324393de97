use Rattle.std.specs.Prelude.{ℕ, ◌+◌, ◌==◌, Bool, true, false, not, if◌then◌else◌, List, [], ◌∷◌, ◌++◌, Option, Some, None}
use Rattle.std.specs.List.{filter}
use Rattle.std.specs.Option.{option_and_then}
use Rattle.mr_base.specs.declared.ids.NodeId.{NodeId}
use Rattle.mr_base.specs.declared.ids.MsgId.{MsgId}
use Rattle.mr_base.specs.declared.timestamps.Reading.{Reading}
use Rattle.journal.specs.declared.entries.Shown.{Shown}
use Rattle.journal.specs.declared.entries.Shown.TheVariants as shown
use Rattle.journal.specs.declared.entries.JournalEntry.TheVariants as entry
use Rattle.run_words.specs.History.{Item, Made, History}
use Rattle.run_words.specs.Setup.{Setup}
use Rattle.run_words.specs.Steps.{step_of, answered_in, taken_in}

-- What was sent, and what became of it. (This project's profile.)

-- A message: a reply names the request that it answers, which is the one that its step takes, or that comes
-- to a stopped node.
pub record Mail : Type 0 where
  pub from : NodeId
  pub to : NodeId
  pub clock : Option Reading
  pub body : Shown
  pub answers : Option MsgId

abbrev pub messages_after : Item → ℕ → ℕ
messages_after (Made (entry.Sent id from to clock body)) old = old + 1
messages_after _ old = old

-- How many messages were sent.
abbrev pub messages : Setup → History → ℕ
messages setup [] = setup.messages
messages setup (x ∷ h) = messages_after x (messages setup h)

-- The message that is answered: a request answers none.
abbrev pub answers_with : Shown → Option MsgId → Option MsgId
answers_with (shown.Request request) message = None
answers_with _ message = message

abbrev pub mail_after : Item → Option MsgId → MsgId → Option Mail → Option Mail
mail_after (Made (entry.Sent id from to clock body)) answers m old =
    if id.0 == m.0 then Some (record { from = from; to = to; clock = clock; body = body; answers = answers_with body answers }) else old
mail_after _ answers m old = old

-- The message of a number, where it was sent.
abbrev pub mail : History → MsgId → Option Mail
mail [] m = None
mail (x ∷ h) m = mail_after x (answered_in (step_of h)) m (mail h m)

abbrev pub is_other : MsgId → MsgId → Bool
is_other m n = not (m.0 == n.0)

abbrev pub flight_after : Item → List MsgId → List MsgId
flight_after (Made (entry.Sent id from to clock body)) old = old ++ id ∷ []
flight_after (Made (entry.Taken id)) old = filter (is_other id) old
flight_after (Made (entry.Bounced id)) old = filter (is_other id) old
flight_after (Made (entry.Dropped id)) old = filter (is_other id) old
flight_after _ old = old

-- The numbers of the messages in flight, in the order in which they were sent.
abbrev pub flight : History → List MsgId
flight [] = []
flight (x ∷ h) = flight_after x (flight h)

abbrev pub is_taken_after : Item → MsgId → Bool → Bool
is_taken_after (Made (entry.Taken id)) m old = if id.0 == m.0 then true else old
is_taken_after _ m old = old

-- A message was taken by its receiver.
abbrev pub is_taken : History → MsgId → Bool
is_taken [] m = false
is_taken (x ∷ h) m = is_taken_after x m (is_taken h m)

-- The request that a message answers.
abbrev pub answered_by : History → MsgId → Option MsgId
answered_by h m = option_and_then (λ sent. sent.answers) (mail h m)

abbrev pub is_request : Option MsgId → MsgId → Bool
is_request None m = false
is_request (Some request) m = request.0 == m.0

abbrev pub is_heard_after : Item → (MsgId → Option MsgId) → MsgId → Bool → Bool
is_heard_after (Made (entry.Taken id)) answered m old = if is_request (answered id) m then true else old
is_heard_after _ answered m old = old

-- A reply to a request was taken by the node that asked.
abbrev pub is_heard : History → MsgId → Bool
is_heard [] m = false
is_heard (x ∷ h) m = is_heard_after x (answered_by h) m (is_heard h m)

abbrev pub if_request : MsgId → Shown → Option MsgId
if_request m (shown.Request request) = Some m
if_request m _ = None

-- The request that the step takes.
abbrev pub handled : History → Option MsgId
handled h = option_and_then (λ m. option_and_then (λ sent. if_request m sent.body) (mail h m)) (taken_in (step_of h))

-- What was done where a request was taken, or in the own step of the gateway, is known to the gateway.
abbrev pub is_known : History → Option MsgId → Bool
is_known h None = true
is_known h (Some m) = is_heard h m
