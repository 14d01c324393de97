-- What stays as it is behind entries that a request appends.
use Rattle.std.proofs.Common.{◌≡◌, ◌≢◌, ◌+◌, ℕ, Bool, true, false, List, [], ◌∷◌, ◌++◌, length, refl}
use Rattle.std.specs.Prelude.{◌==◌, if◌then◌else◌, slice_index_or}
use Rattle.std.specs.List.{All}
use Rattle.std.proofs.lemmas.List.Elements.{All-weaker}
use Rattle.journal.specs.declared.entries.JournalEntry.TheVariants as entry
use Rattle.mr_base.specs.declared.ids.NodeId.{NodeId}
use Rattle.mr_base.specs.declared.ids.RangeId.{RangeId}
use Rattle.mr_base.specs.declared.messages.Body.{Body}
use Rattle.mr_base.specs.declared.messages.Body.TheVariants as bodies
use Rattle.mr_base.specs.declared.messages.Message.{Message}
use Rattle.mr_base.specs.declared.messages.Request.{Request}
use Rattle.mr_base.specs.declared.messages.Request.TheVariants as requests
use Rattle.mr_base.specs.declared.nodes.NodeSet.{NodeSet}
use Rattle.node_states.specs.Appends.{AreChanges, IsChange, appends}
use Rattle.node_states.specs.Ties.{AreMailsPlaced, IsAskPlaced, IsMessagePlaced, MailsTied, NodesTied}
use Rattle.node_states.specs.declared.states.NodeState.{NodeState}
use Rattle.range_log.specs.declared.entries.Entry.{Entry}
use Rattle.range_log.specs.declared.entries.Entry.TheVariants as log
use Rattle.range_rules.specs.Added.{AreLicensed}
use Rattle.range_server.specs.Handling.{Licenses}
use Rattle.range_server.specs.Scene.{Scene}
use Rattle.run_words.specs.Askers.{range_asked}
use Rattle.run_words.specs.History.{History, Made}
use Rattle.run_words.specs.Logs.{log_of}
use Rattle.run_words.specs.Messages.{messages}
use Rattle.run_words.specs.Setup.{Setup}
use Rattle.run_words.specs.Transactions.{attempts}

pub nodes_behind : (setup : Setup) (j : RangeId) (count : ℕ) (added : List Entry) (h : History) (nodes : List NodeState) (running : NodeSet)
    → NodesTied setup h nodes running → NodesTied setup (appends j count added ++ h) nodes running
nodes_behind setup j count [] h nodes running t = t
nodes_behind setup j count (e ∷ added) h nodes running t = nodes_behind setup j count added h nodes running t

-- a range that has begun goes on having entries
some_entries : (t : Bool) (e : Entry) (old : List Entry) → old ≢ [] → (if t then e ∷ old else old) ≢ []
some_entries true e old ne q = absurd (let no : ⊥ = cc in no)
some_entries false e old ne q = ne q

asks_stay : (setup : Setup) (j : RangeId) (index : ℕ) (e : Entry) (g : History) (to : NodeId) (b : Body) → IsAskPlaced setup (log_of setup g) to b
    → IsAskPlaced setup (log_of setup (Made (entry.Append j index e) ∷ g)) to b
asks_stay setup j index e g to (bodies.Request q) a = (a.0, some_entries (j.0 == (range_asked q).0) e (log_of setup g (range_asked q)) a.1)
asks_stay setup j index e g to (bodies.Reply reply) a = tt

mail_stays : (setup : Setup) (j : RangeId) (index : ℕ) (e : Entry) (g : History) (count sent : ℕ) (ms : List Message) → MailsTied setup g count sent ms
    → MailsTied setup (Made (entry.Append j index e) ∷ g) count sent ms
mail_stays setup j index e g count sent ms t =
    record {
      tied = t.tied;
      placed = All-weaker (IsMessagePlaced setup (log_of setup g) count) (IsMessagePlaced setup (log_of setup (Made (entry.Append j index e) ∷ g)) count)
          (λ m p. record { sender = p.sender; receiver = p.receiver; asks = asks_stay setup j index e g m.to m.body p.asks }) ms t.placed;
    }

pub mails_behind : (setup : Setup) (j : RangeId) (before : ℕ) (added : List Entry) (h : History) (count sent : ℕ) (ms : List Message) → MailsTied setup h count sent ms
    → MailsTied setup (appends j before added ++ h) count sent ms
mails_behind setup j before [] h count sent ms t = t
mails_behind setup j before (e ∷ added) h count sent ms t =
    mail_stays setup j (before + length added + 1) e (appends j before added ++ h) count sent ms (mails_behind setup j before added h count sent ms t)

pub attempts_behind : (setup : Setup) (j : RangeId) (before : ℕ) (added : List Entry) (h : History) → attempts setup (appends j before added ++ h) ≡ attempts setup h
attempts_behind setup j before [] h = refl
attempts_behind setup j before (e ∷ added) h = attempts_behind setup j before added h

pub messages_behind : (setup : Setup) (j : RangeId) (before : ℕ) (added : List Entry) (h : History) → messages setup (appends j before added ++ h) ≡ messages setup h
messages_behind setup j before [] h = refl
messages_behind setup j before (e ∷ added) h = messages_behind setup j before added h

-- a request appends intents, resolves and records alone
change_of : (sc : Scene) (q : Request) (e : Entry) (before : List Entry) → Licenses sc q e before → IsChange e
change_of sc q (log.Put attempt start anchor ts key value) before l = tt
change_of sc q (log.Resolve attempt key fate) before l = tt
change_of sc q (log.State attempt state) before l = tt
change_of sc (requests.Read a j span at limit known) e before l = absurd l
change_of sc (requests.Refresh a j span from at known) e before l = absurd l
change_of sc (requests.Put a j start anchor at key value known) e before l = absurd l
change_of sc (requests.PushReader a j other at) e before l = absurd l
change_of sc (requests.PushWriter a j other start other_start) e before l = absurd l
change_of sc (requests.Commit a j at) e before l = absurd l
change_of sc (requests.Abort a j) e before l = absurd l
change_of sc (requests.Resolve a j keys fate) e before l = absurd l

pub changes_of : (sc : Scene) (q : Request) (added before : List Entry) → AreLicensed (Licenses sc q) added before → AreChanges added
changes_of sc q [] before l = tt
changes_of sc q (e ∷ added) before l = (change_of sc q e (added ++ before) l.0, changes_of sc q added before l.1)
