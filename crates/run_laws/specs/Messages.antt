use Rattle.std.specs.List.{Contains}
use Rattle.std.specs.Prelude.{None, Option, Some, ⊤, ◌+◌, ◌≡◌, ◌≢◌, ◌⊎◌}
use Rattle.journal.specs.declared.entries.JournalEntry.TheVariants as entry
use Rattle.journal.specs.declared.entries.Shown.TheVariants as shown
use Rattle.journal.specs.declared.entries.Shown.{Shown}
use Rattle.journal.specs.declared.events.Event.TheVariants as events
use Rattle.journal.specs.declared.events.Event.{Event}
use Rattle.mr_base.specs.declared.ids.MsgId.{MsgId}
use Rattle.mr_base.specs.declared.ids.NodeId.{NodeId}
use Rattle.mr_base.specs.declared.messages.Reply.TheVariants as replies
use Rattle.mr_base.specs.declared.messages.Request.TheVariants as requests
use Rattle.mr_base.specs.declared.messages.Request.{Request}
use Rattle.mr_base.specs.declared.timestamps.Reading.{Reading}
use Rattle.run_laws.specs.Asks.{Asks}
use Rattle.run_laws.specs.Places.{IsInOwnStep, stepping}
use Rattle.run_words.specs.Askers.{asker_of, range_asked}
use Rattle.run_words.specs.Clocks.{reading}
use Rattle.run_words.specs.Happened.{Happened}
use Rattle.run_words.specs.History.{History, Item, Made}
use Rattle.run_words.specs.Messages.{Mail, flight, mail, messages}
use Rattle.run_words.specs.Ranges.{HoldsReplica}
use Rattle.run_words.specs.Setup.{Setup}
use Rattle.run_words.specs.Steps.{Bounces, event_of, step_of, taken_in}

-- Messages: who sends what to whom. (This project's profile.)

abbrev pub IsSentSo : Request → NodeId → Item → History → Type 0
IsSentSo q to (Made (entry.Sent m from receiver clock body)) h = (receiver ≡ to) × (body ≡ shown.Request q)
IsSentSo q to _ h = ⊥

-- A request was sent to a node.
abbrev pub WasSentTo : Request → NodeId → History → Type 0
WasSentTo q to h = Happened (IsSentSo q to) h

abbrev pub IsAbort : Request → Type 0
IsAbort (requests.Abort a j) = ⊤
IsAbort _ = ⊥

abbrev pub IsResolve : Request → Type 0
IsResolve (requests.Resolve a j keys fate) = ⊤
IsResolve _ = ⊥

-- Where a wait has ended an abort alone is sent.
abbrev pub IsAllowedAt : Option Event → Request → Type 0
IsAllowedAt (Some (events.Timeout t)) q = IsAbort q
IsAllowedAt _ q = ⊤

-- A request is sent by the gateway of its attempt's transaction, in the transaction's own step, to another node that
-- holds a replica, with what the gateway's clock shows. No attempt sends a request twice to one node, except an abort.
pub record IsRequestSent (setup : Setup) (h : History) (from to : NodeId) (clock : Option Reading) (q : Request) : Type 0 where
  pub place : IsInOwnStep h (asker_of q)
  pub allowed : IsAllowedAt (event_of h) q
  pub sender : stepping h ≡ Some from
  pub receiver : HoldsReplica setup h to (range_asked q)
  pub other : to ≢ from
  pub clock_is : clock ≡ Some (reading setup h from)
  pub asks : Asks setup h q
  pub fresh : (¬ IsAbort q) → ¬ WasSentTo q to h

-- A reply answers the request that the step takes, back to its sender, with what the clock of its sender shows.
pub record IsReplySent (setup : Setup) (h : History) (from to : NodeId) (clock : Option Reading) (body : Shown) : Type 0 where
  pub request : Request
  pub answered : MsgId
  pub sent : Mail
  pub takes : taken_in (step_of h) ≡ Some answered
  pub is_sent : mail h answered ≡ Some sent
  pub body_is : sent.body ≡ shown.Request request
  pub replied : ¬ IsResolve request
  pub says : body ≢ shown.Reply replies.Down
  pub sender : from ≡ sent.to
  pub receiver : to ≡ sent.from
  pub clock_is : clock ≡ Some (reading setup h from)

-- A request that came to a stopped node is answered in its name, without a clock; a resolve isn't.
pub record IsDownSent (h : History) (from to : NodeId) (clock : Option Reading) (body : Shown) : Type 0 where
  pub request : Request
  pub answered : MsgId
  pub sent : Mail
  pub bounces : step_of h ≡ Bounces answered
  pub is_sent : mail h answered ≡ Some sent
  pub body_is : sent.body ≡ shown.Request request
  pub replied : ¬ IsResolve request
  pub says : body ≡ shown.Reply replies.Down
  pub sender : from ≡ sent.to
  pub receiver : to ≡ sent.from
  pub clock_is : clock ≡ None

abbrev pub IsSent : Setup → History → NodeId → NodeId → Option Reading → Shown → Type 0
IsSent setup h from to clock (shown.Request q) = IsRequestSent setup h from to clock q
IsSent setup h from to clock body = IsReplySent setup h from to clock body ⊎ IsDownSent h from to clock body

-- A message is in flight.
abbrev pub IsInFlight : History → MsgId → Type 0
IsInFlight h m = Contains (flight h) m

-- Messages are numbered one after the other, and what is delivered or dropped was in flight.
abbrev pub Messages : Setup → History → Item → Type 0
Messages setup h (Made (entry.Sent m from to clock body)) = (m.0 ≡ messages setup h + 1) × IsSent setup h from to clock body
Messages setup h (Made (entry.Taken m)) = IsInFlight h m
Messages setup h (Made (entry.Bounced m)) = IsInFlight h m
Messages setup h (Made (entry.Dropped m)) = IsInFlight h m
Messages setup h _ = ⊤
