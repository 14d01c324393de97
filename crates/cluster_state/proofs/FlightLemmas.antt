-- Messages are sent, taken and lost.
use Rattle.std.proofs.Common.{◌≡◌, ℕ, ◌<◌, ◌+◌, ◌≤◌, Bool, true, false, List, [], ◌∷◌, ◌++◌, length, refl, sym, ap, ◌∙◌, subst, map, arith, Some, None}
use Rattle.std.specs.Prelude.{◌≢◌, Option, not, slice_index_or}
use Rattle.std.specs.List.{All, Contains, filter}
use Rattle.std.proofs.lemmas.List.Elements.{All-filter, All-push}
use Rattle.mr_base.specs.declared.ids.MsgId.{MsgId}
use Rattle.mr_base.specs.declared.messages.Message.{Message}
use Rattle.journal.specs.declared.entries.JournalEntry.TheVariants as entry
use Rattle.journal.specs.declared.events.Event.TheVariants as events
use Rattle.msg_flight.specs.Messages.{HasNumberBelow, has_number}
use Rattle.msg_flight.specs.Value.{FlightValue}
use Rattle.node_states.proofs.MailLemmas.{gone_mails, sent_above, sent_mails}
use Rattle.node_states.specs.Placed.{IsRequestPlaced, IsSentPlaced}
use Rattle.node_states.specs.Ties.{IsMessagePlaced, mail_of, shown_of}
use Rattle.run_laws.specs.Messages.{IsInFlight}
use Rattle.run_laws.specs.Order.{IsSendDue}
use Rattle.run_laws.specs.OrderEvents.{IsFirstAt}
use Rattle.run_words.specs.History.{History, Made}
use Rattle.run_words.specs.Logs.{log_of}
use Rattle.run_words.specs.Messages.{flight, mail, messages}
use Rattle.run_words.specs.Setup.{Setup}
use Rattle.run_words.specs.Steps.{answered_in, step_of}
use Rattle.run_words.specs.Askers.{range_asked}
use Rattle.mr_base.specs.declared.ids.NodeId.{NodeId}
use Rattle.mr_base.specs.declared.ids.TxnId.{TxnId}
use Rattle.mr_base.specs.declared.messages.Body.TheVariants as bodies
use Rattle.mr_base.specs.declared.messages.Request.{Request}
use Rattle.mr_base.specs.declared.timestamps.Reading.{Reading}
use Rattle.journal.specs.declared.entries.Shown.TheVariants as shown
use Rattle.cluster_state.proofs.ReplicaThere.{replica_there}
use Rattle.cluster_state.specs.Tied.{IsThere, IsTied, IsTiedTo, past, the_setup}
use Rattle.cluster_state.specs.declared.state.State.{State}

abbrev pub without : MsgId → List Message → List Message
without m ms = filter (λ (x : Message). not (has_number m x)) ms

pub dropped_keeps : (s : State) (f : FlightValue) (id : MsgId) → IsTied s → IsInFlight (past s) id → IsFirstAt (past s) (events.Drop id)
    → f.messages ≡ without id s.flight.messages → IsTiedTo (Made (entry.Dropped id) ∷ past s) (record s { flight = f })
dropped_keeps s f id t flying line e =
    record {
      staged = t.staged;
      laws = (record { order = line; message = flying; append = tt; waited = tt; begun = tt }, t.laws);
      count = t.count;
      nodes_are = t.nodes_are;
      ranges_are = t.ranges_are;
      mails_are = rw e (record {
        tied = gone_mails (mail (past s)) (flight (past s)) s.sent s.flight.messages id t.mails_are.tied;
        placed = All-filter _ (IsMessagePlaced (the_setup s) (log_of (the_setup s) (past s)) (length s.stage.nodes)) s.flight.messages t.mails_are.placed;
      });
      begun_are = t.begun_are;
      sent_are = t.sent_are;
    }

-- a message that is sent where that is due
pub sent_keeps : (s : State) (h : History) (f : FlightValue) (m : Message) → IsTiedTo h s → m.id.0 ≡ s.sent + 1 → f.messages ≡ s.flight.messages ++ m ∷ []
    → IsSendDue h → IsSentPlaced (the_setup s) h m.from m.to m.clock (shown_of m.body)
    → IsMessagePlaced (the_setup s) (log_of (the_setup s) h) (length s.stage.nodes) m
    → IsTiedTo (Made (entry.Sent m.id m.from m.to m.clock (shown_of m.body)) ∷ h) (record s { flight = f; sent = s.sent + 1 })
sent_keeps s h f m t number e due so placed =
    record {
      staged = t.staged;
      laws = (record { order = due; message = (number ∙ ap (λ k. k + 1) t.sent_are, so); append = tt; waited = tt; begun = tt }, t.laws);
      count = t.count;
      nodes_are = t.nodes_are;
      ranges_are = t.ranges_are;
      mails_are = rw e (record {
        tied = sent_mails (mail h) (flight h) s.sent s.flight.messages m (answered_in (step_of h)) t.mails_are.tied number;
        placed = All-push (IsMessagePlaced (the_setup s) (log_of (the_setup s) h) (length s.stage.nodes)) s.flight.messages m t.mails_are.placed placed;
      });
      begun_are = t.begun_are;
      sent_are = ap (λ k. k + 1) t.sent_are;
    }

-- a gateway's request is sent
pub request_sent : (s : State) (f : FlightValue) (id : MsgId) (from to : NodeId) (clock : Reading) (txn : TxnId) (at : ℕ) (q : Request)
    → IsTied s → IsThere s.stage from → id.0 ≡ s.sent + 1
    → f.messages ≡ s.flight.messages ++ record { id = id; from = from; to = to; clock = Some clock; txn = txn; boot = at; body = bodies.Request q } ∷ []
    → IsSendDue (past s) → IsRequestPlaced (the_setup s) (past s) from to (Some clock) q → log_of (the_setup s) (past s) (range_asked q) ≢ []
    → IsTiedTo (Made (entry.Sent id from to (Some clock) (shown.Request q)) ∷ past s) (record s { flight = f; sent = id.0 })
request_sent s f id from to clock txn at q t there number e due placed begun =
    subst (λ (k : ℕ). IsTiedTo (Made (entry.Sent id from to (Some clock) (shown.Request q)) ∷ past s) (record s { flight = f; sent = k })) (sym number)
    (sent_keeps s (past s) f (record { id = id; from = from; to = to; clock = Some clock; txn = txn; boot = at; body = bodies.Request q }) t number e due placed
    (record { sender = there; receiver = replica_there s.stage (past s) to (range_asked q) t.staged placed.receiver; asks = (placed.receiver, begun) }))
