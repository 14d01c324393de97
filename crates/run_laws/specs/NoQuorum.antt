use Rattle.std.specs.List.{Contains}
use Rattle.std.specs.Prelude.{Some, false, ◌↔◌, ◌∷◌, ◌≡◌, ◌⊎◌}
use Rattle.journal.specs.declared.entries.JournalEntry.TheVariants as entry
use Rattle.journal.specs.declared.entries.Shown.TheVariants as shown
use Rattle.mr_base.specs.Nodes.{IsMember, IsNode}
use Rattle.mr_base.specs.declared.ids.AttemptId.{AttemptId}
use Rattle.mr_base.specs.declared.ids.MsgId.{MsgId}
use Rattle.mr_base.specs.declared.ids.NodeId.{NodeId}
use Rattle.mr_base.specs.declared.ids.RangeId.{RangeId}
use Rattle.mr_base.specs.declared.ids.TxnId.{TxnId}
use Rattle.mr_base.specs.declared.messages.Reply.TheVariants as replies
use Rattle.mr_base.specs.declared.messages.Request.{Request}
use Rattle.mr_base.specs.declared.nodes.NodeSet.{NodeSet}
use Rattle.run_laws.specs.Places.{IsSince}
use Rattle.run_laws.specs.UsedRanges.{AppendsTo}
use Rattle.run_words.specs.Askers.{asker_of, gateway_of, range_asked}
use Rattle.run_words.specs.Happened.{Happened}
use Rattle.run_words.specs.History.{History, Item, Made}
use Rattle.run_words.specs.Messages.{Mail, answered_by, mail}
use Rattle.run_words.specs.Nodes.{is_running}
use Rattle.run_words.specs.Ranges.{HasQuorum, voters_of}
use Rattle.run_words.specs.Serving.{IsHolder}
use Rattle.run_words.specs.Setup.{Setup}
use Rattle.run_words.specs.Transactions.{last_attempt}

-- When a transaction is refused for want of a majority. (Taft et al., SIGMOD 2020, on replication, in this project's
-- profile.)

-- Exactly these voters of a range are stopped, and the others are no majority.
pub record LacksQuorum (setup : Setup) (h : History) (j : RangeId) (down : NodeSet) : Type 0 where
  pub stopped : (n : NodeId) → IsNode n → IsMember down n ↔ (Contains (voters_of setup h j) n × (is_running setup h n ≡ false))
  pub lacking : ¬ HasQuorum setup h j

abbrev pub SaysNoQuorum : Setup → RangeId → NodeSet → MsgId → Item → History → Type 0
SaysNoQuorum setup j down reply (Made (entry.Sent sent from to clock (shown.Reply (replies.NoQuorum nodes)))) h =
    (sent ≡ reply) × LacksQuorum setup h j down
SaysNoQuorum setup j down reply _ h = ⊥

abbrev pub IsTakenAs : MsgId → Item → Type 0
IsTakenAs m (Made (entry.Taken taken)) = taken ≡ m
IsTakenAs m _ = ⊥

-- A reply that a majority lacks, to a request of the attempt to this range, was taken since its last entry.
pub record WasToldOfNoQuorum (setup : Setup) (h : History) (a : AttemptId) (j : RangeId) (down : NodeSet) : Type 0 where
  pub reply : MsgId
  pub item : Item
  pub older : History
  pub since : IsSince a (item ∷ older) h
  pub taken : IsTakenAs reply item
  pub message : MsgId
  pub answers : answered_by h reply ≡ Some message
  pub sent : Mail
  pub is_sent : mail h message ≡ Some sent
  pub request : Request
  pub body_is : sent.body ≡ shown.Request request
  pub asker : asker_of request ≡ a
  pub range : range_asked request ≡ j
  pub said : Happened (SaysNoQuorum setup j down reply) h

-- No majority of a range runs: here, where the gateway's node is the holder, or where a reply said so.
pub record HasNoQuorum (setup : Setup) (h : History) (t : TxnId) (j : RangeId) (down : NodeSet) : Type 0 where
  pub attempt : AttemptId
  pub last : last_attempt h t ≡ Some attempt
  pub gateway : NodeId
  pub is_gateway : gateway_of h t ≡ Some gateway
  pub used : AppendsTo setup h attempt j
  pub lacks : (LacksQuorum setup h j down × IsHolder setup h gateway j) ⊎ WasToldOfNoQuorum setup h attempt j down
