use Rattle.std.specs.Prelude.{Option, Some, [], false, true, ⊤, ◌+◌, ◌<◌, ◌≡◌, ◌≤◌, ◌⊎◌}
use Rattle.journal.specs.declared.entries.JournalEntry.TheVariants as entry
use Rattle.journal.specs.declared.entries.Shown.TheVariants as shown
use Rattle.journal.specs.declared.events.Event.TheVariants as events
use Rattle.journal.specs.declared.events.Event.{Event}
use Rattle.mr_base.specs.declared.ids.AttemptId.{AttemptId}
use Rattle.mr_base.specs.declared.ids.MsgId.{MsgId}
use Rattle.mr_base.specs.declared.ids.NodeId.{NodeId}
use Rattle.mr_base.specs.declared.ids.TxnId.{TxnId}
use Rattle.mr_base.specs.declared.messages.Request.{Request}
use Rattle.mr_base.specs.declared.timestamps.Ts.{Ts}
use Rattle.run_laws.specs.Ahead.{AreNear}
use Rattle.run_laws.specs.DeterminedAnswers.{HasAnswer}
use Rattle.run_laws.specs.Messages.{IsInFlight, IsResolve}
use Rattle.run_words.specs.Askers.{asker_of, gateway_of, txn_of}
use Rattle.run_words.specs.Attempts.{Attempt, attempt_of}
use Rattle.run_words.specs.Clocks.{reading}
use Rattle.run_words.specs.Happened.{Always, Happened}
use Rattle.run_words.specs.History.{History, Item, Made}
use Rattle.run_words.specs.Messages.{Mail, answered_by, flight, mail}
use Rattle.run_words.specs.Puts.{CommitMade, commit, puts}
use Rattle.run_words.specs.Requests.{awaited}
use Rattle.run_words.specs.Setup.{Setup}
use Rattle.run_words.specs.Steps.{event_of}
use Rattle.run_words.specs.Transactions.{is_open, last_attempt}

-- Settled: where each line leaves its transactions. (This project's profile.)

abbrev pub IsDroppedAs : MsgId → Item → History → Type 0
IsDroppedAs m (Made (entry.Dropped dropped)) h = dropped ≡ m
IsDroppedAs m _ h = ⊥

-- A request or a reply to it is in flight, or one of the two was dropped.
abbrev pub IsOut : History → MsgId → Type 0
IsOut h m = IsInFlight h m ⊎ ((reply : MsgId) × (answered_by h reply ≡ Some m) × IsInFlight h reply)

abbrev pub WasDropped : History → MsgId → Type 0
WasDropped h m =
    Happened (IsDroppedAs m) h ⊎ ((reply : MsgId) × (answered_by h reply ≡ Some m) × Happened (IsDroppedAs reply) h)

-- A message is a request of a transaction to which there is a reply.
abbrev pub IsRequestOf : History → TxnId → MsgId → Type 0
IsRequestOf h t m =
    (sent : Mail) × (q : Request) × (mail h m ≡ Some sent) × (sent.body ≡ shown.Request q) × (txn_of h (asker_of q) ≡ Some t)
    × (¬ IsResolve q)

-- A transaction awaits one request, which is out or lost, and no other of its requests is out.
pub record IsAwaiting (h : History) (t : TxnId) : Type 0 where
  pub request : MsgId
  pub is_awaited : awaited h t ≡ Some request
  pub out : IsOut h request ⊎ WasDropped h request
  pub only : (m : MsgId) → IsRequestOf h t m → IsOut h m → m ≡ request

-- The answer of an attempt stands: it is committed, or it has put nothing and what it was served determines its list's
-- answer.
abbrev pub StandsAt : Setup → History → AttemptId → Ts → Type 0
StandsAt setup h a ts =
    ((made : CommitMade) × (commit h a ≡ Some made) × (made.ts ≡ ts))
    ⊎ ((puts h a ≡ []) × ((attempt : Attempt) × (attempt_of h a ≡ Some attempt) × (attempt.read_at ≡ ts)) × HasAnswer setup h a ts)

-- A transaction waits for its gateway's clock to come to its answer's timestamp.
pub record IsWaiting (setup : Setup) (h : History) (t : TxnId) : Type 0 where
  pub attempt : AttemptId
  pub last : last_attempt h t ≡ Some attempt
  pub ts : Ts
  pub stands : StandsAt setup h attempt ts
  pub gateway : NodeId
  pub is_gateway : gateway_of h t ≡ Some gateway
  pub ahead : (reading setup h gateway).wall < ts.wall

abbrev pub EndsDrained : Option Event → Type 0
EndsDrained (Some events.Drain) = ⊤
EndsDrained (Some (events.Settle ms)) = ⊤
EndsDrained _ = ⊥

-- At the end of a line: each open transaction awaits a request or waits for its clock; nothing is in flight behind a
-- drain; and no timestamp is further ahead than may be.
pub record IsSettledAt (setup : Setup) (h : History) : Type 0 where
  pub open_ones : (t : TxnId) → is_open h t ≡ true → IsAwaiting h t ⊎ IsWaiting setup h t
  pub drained : EndsDrained (event_of h) → flight h ≡ []
  pub near : AreNear setup h
  pub lost : (t : TxnId) (n : NodeId) → event_of h ≡ Some (events.Stop n) → gateway_of h t ≡ Some n → is_open h t ≡ false
