use Rattle.std.specs.List.{All}
use Rattle.std.specs.Prelude.{Bool, List, Option, Some, [], length, map, true, ℕ, ⊤, ◌↔◌, ◌≡◌, ◌≢◌, ◌≤◌}
use Rattle.journal.specs.declared.entries.Shown.TheVariants as shown
use Rattle.journal.specs.declared.entries.Shown.{Shown}
use Rattle.mr_base.specs.Nodes.{IsMember}
use Rattle.mr_base.specs.declared.ids.MsgId.{MsgId}
use Rattle.mr_base.specs.declared.ids.NodeId.{NodeId}
use Rattle.mr_base.specs.declared.messages.Body.TheVariants as bodies
use Rattle.mr_base.specs.declared.messages.Body.{Body}
use Rattle.mr_base.specs.declared.messages.Message.{Message}
use Rattle.mr_base.specs.declared.messages.Reply.TheVariants as replies
use Rattle.mr_base.specs.declared.messages.Reply.{Reply}
use Rattle.mr_base.specs.declared.nodes.NodeSet.{NodeSet}
use Rattle.mr_base.specs.declared.timestamps.Reading.{Reading}
use Rattle.mr_base.specs.declared.ids.RangeId.{RangeId}
use Rattle.range_log.specs.declared.entries.Entry.{Entry}
use Rattle.node_states.specs.Stage.{AreNumbered, IsOfNode}
use Rattle.node_states.specs.declared.states.NodeState.{NodeState}
use Rattle.run_words.specs.Clocks.{phys, seen}
use Rattle.run_words.specs.History.{History}
use Rattle.run_words.specs.Askers.{range_asked}
use Rattle.run_words.specs.Logs.{log_of}
use Rattle.run_words.specs.Messages.{Mail, flight, mail}
use Rattle.run_words.specs.Nodes.{boot, is_running}
use Rattle.run_words.specs.Ranges.{HoldsReplica}
use Rattle.run_words.specs.Setup.{Setup}

-- How what is kept of nodes and messages stands to what happened. Each tie takes the words that it speaks of as
-- functions, so that an item at which they don't look keeps it.

-- What is kept of a node is what the words say of it.
pub record IsNodeTied (phys : NodeId → ℕ) (seen : NodeId → Reading) (boot : NodeId → ℕ) (runs : NodeId → Bool) (node : NodeState) : Type 0 where
  pub physical : node.clock.physical ≡ phys node.id
  pub kept : node.clock.kept ≡ seen node.id
  pub boot_is : node.boot ≡ boot node.id
  pub runs_is : node.runs ≡ runs node.id

-- A set has a node exactly where that runs.
abbrev pub IsAmong : NodeSet → NodeState → Type 0
IsAmong running node = IsMember running node.id ↔ (node.runs ≡ true)

-- So it is with all nodes, which stand in the order of their numbers, and a set has those that run.
pub record AreNodesTied (phys : NodeId → ℕ) (seen : NodeId → Reading) (boot : NodeId → ℕ) (runs : NodeId → Bool) (nodes : List NodeState) (running : NodeSet) : Type 0 where
  pub each : All (IsNodeTied phys seen boot runs) nodes
  pub numbered : AreNumbered 0 (map (λ node. node.id.0) nodes)
  pub running_are : All (IsAmong running) nodes

-- What the journal shows of a body.
abbrev pub shown_reply : Reply → Shown
shown_reply (replies.Rows pairs) = shown.Rows (length pairs)
shown_reply reply = shown.Reply reply

abbrev pub shown_of : Body → Shown
shown_of (bodies.Request q) = shown.Request q
shown_of (bodies.Reply reply) = shown_reply reply

abbrev pub mail_of : Message → Option MsgId → Mail
mail_of m answers = record { from = m.from; to = m.to; clock = m.clock; body = shown_of m.body; answers = answers }

-- A message in flight was sent so.
abbrev pub IsMailTied : (MsgId → Option Mail) → Message → Type 0
IsMailTied mail m = (answers : Option MsgId) × (mail m.id ≡ Some (mail_of m answers))

-- The messages are those in flight, each as it was sent, with the numbers that were given.
pub record AreMailsTied (mail : MsgId → Option Mail) (flight : List MsgId) (sent : ℕ) (messages : List Message) : Type 0 where
  pub each : All (IsMailTied mail) messages
  pub numbers : map (λ m. m.id) messages ≡ flight
  pub given : All (λ m. m.id.0 ≤ sent) messages

abbrev pub NodesTied : Setup → History → List NodeState → NodeSet → Type 0
NodesTied setup h nodes running = AreNodesTied (phys setup h) (seen setup h) (boot setup h) (is_running setup h) nodes running

-- A request in flight asks a range that has begun, of a node that holds a replica.
abbrev pub IsAskPlaced : Setup → (RangeId → List Entry) → NodeId → Body → Type 0
IsAskPlaced setup logs to (bodies.Request q) = HoldsReplica setup [] to (range_asked q) × (logs (range_asked q) ≢ [])
IsAskPlaced setup logs to (bodies.Reply reply) = ⊤

-- A message goes between nodes that are there.
pub record IsMessagePlaced (setup : Setup) (logs : RangeId → List Entry) (count : ℕ) (m : Message) : Type 0 where
  pub sender : IsOfNode count m.from
  pub receiver : IsOfNode count m.to
  pub asks : IsAskPlaced setup logs m.to m.body

pub record AreMailsPlaced (setup : Setup) (mail : MsgId → Option Mail) (flight : List MsgId) (logs : RangeId → List Entry) (count sent : ℕ) (messages : List Message) : Type 0 where
  pub tied : AreMailsTied mail flight sent messages
  pub placed : All (IsMessagePlaced setup logs count) messages

abbrev pub MailsTied : Setup → History → ℕ → ℕ → List Message → Type 0
MailsTied setup h count sent messages = AreMailsPlaced setup (mail h) (flight h) (log_of setup h) count sent messages
