use Rattle.std.specs.Prelude.{None, Some, true, ◌∷◌, ◌≡◌, ◌≢◌, ◌⊎◌}
use Rattle.journal.specs.declared.entries.JournalEntry.TheVariants as entry
use Rattle.journal.specs.declared.entries.Shown.TheVariants as shown
use Rattle.mr_base.specs.declared.ids.AttemptId.{AttemptId}
use Rattle.mr_base.specs.declared.ids.MsgId.{MsgId}
use Rattle.mr_base.specs.declared.ids.NodeId.{NodeId}
use Rattle.mr_base.specs.declared.ids.RangeId.{RangeId}
use Rattle.mr_base.specs.declared.ids.TxnId.{TxnId}
use Rattle.mr_base.specs.declared.messages.Reply.TheVariants as replies
use Rattle.mr_base.specs.declared.messages.Request.TheVariants as requests
use Rattle.mr_base.specs.declared.messages.Request.{Request}
use Rattle.run_laws.specs.Asks.{Asks}
use Rattle.run_laws.specs.Near.{CannotRead}
use Rattle.run_laws.specs.Places.{IsSince}
use Rattle.run_laws.specs.UsedRanges.{AppendsTo, ReadsFrom}
use Rattle.run_words.specs.Askers.{asker_of, gateway_of, range_asked}
use Rattle.run_words.specs.Happened.{Happened}
use Rattle.run_words.specs.History.{History, Item, Made}
use Rattle.run_words.specs.Messages.{answered_by, is_taken}
use Rattle.run_words.specs.Ranges.{HoldsReplica}
use Rattle.run_words.specs.Serving.{IsHolder}
use Rattle.run_words.specs.Setup.{Setup}
use Rattle.run_words.specs.Transactions.{last_attempt}

-- When a transaction is refused for want of a replica that serves. (Taft et al., SIGMOD 2020, on leases, in this
-- project's profile.)

-- A node couldn't do what a request asks: serve a read or refresh or, for any other, hold the range.
abbrev pub CannotDo : Setup → History → NodeId → Request → Type 0
CannotDo setup h n (requests.Read a j span at limit known) = CannotRead setup h n j at limit
CannotDo setup h n (requests.Refresh a j span from at known) = CannotRead setup h n j at None
CannotDo setup h n q = ¬ IsHolder setup h n (range_asked q)

abbrev pub IsSentAs : MsgId → NodeId → Request → Item → Type 0
IsSentAs m n q (Made (entry.Sent sent from to clock body)) = (sent ≡ m) × (to ≡ n) × (body ≡ shown.Request q)
IsSentAs m n q _ = ⊥

-- A reply that says that the node is stopped, or isn't the holder; where it says this, it was sent where the node couldn't
-- do what was asked.
abbrev pub IsInVain : Setup → NodeId → Request → MsgId → Item → History → Type 0
IsInVain setup n q reply (Made (entry.Sent sent from to clock (shown.Reply replies.Down))) h = sent ≡ reply
IsInVain setup n q reply (Made (entry.Sent sent from to clock (shown.Reply (replies.NotHolder seq holder expiration)))) h =
    (sent ≡ reply) × CannotDo setup h n q
IsInVain setup n q reply _ h = ⊥

-- A node was asked in vain since an attempt's last entry, and the gateway knows.
pub record WasAskedInVain (setup : Setup) (h : History) (a : AttemptId) (n : NodeId) (q : Request) : Type 0 where
  pub message : MsgId
  pub item : Item
  pub older : History
  pub since : IsSince a (item ∷ older) h
  pub asked : IsSentAs message n q item
  pub reply : MsgId
  pub answers : answered_by h reply ≡ Some message
  pub known : is_taken h reply ≡ true
  pub said : Happened (IsInVain setup n q reply) h

-- The own replica couldn't do it at some place since the attempt's last entry.
abbrev pub CouldNotDo : Setup → History → AttemptId → NodeId → Request → Type 0
CouldNotDo setup h a n q = (older : History) × IsSince a older h × CannotDo setup older n q

-- No replica of a range serves: one request of the attempt failed at each of them.
pub record HasNoServer (setup : Setup) (h : History) (t : TxnId) (j : RangeId) : Type 0 where
  pub attempt : AttemptId
  pub last : last_attempt h t ≡ Some attempt
  pub gateway : NodeId
  pub is_gateway : gateway_of h t ≡ Some gateway
  pub used : ReadsFrom setup h attempt j ⊎ AppendsTo setup h attempt j
  pub request : Request
  pub asker : asker_of request ≡ attempt
  pub range : range_asked request ≡ j
  pub asks : Asks setup h request
  pub others : (n : NodeId) → HoldsReplica setup h n j → n ≢ gateway → WasAskedInVain setup h attempt n request
  pub own : HoldsReplica setup h gateway j → CouldNotDo setup h attempt gateway request
