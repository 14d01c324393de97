use Rattle.std.specs.Prelude.{Bool, List, None, Option, Some, false, true, ℕ, ⊤, ◌≡◌, ◌⊎◌}
use Rattle.journal.specs.declared.entries.JournalEntry.TheVariants as entry
use Rattle.journal.specs.declared.entries.JournalEntry.{JournalEntry}
use Rattle.journal.specs.declared.entries.Why.TheVariants as why
use Rattle.journal.specs.declared.entries.Why.{Why}
use Rattle.journal.specs.declared.events.Event.TheVariants as events
use Rattle.journal.specs.declared.events.Event.{Event}
use Rattle.mr_base.specs.declared.ids.AttemptId.{AttemptId}
use Rattle.mr_base.specs.declared.ids.NodeId.{NodeId}
use Rattle.mr_base.specs.declared.ids.RangeId.{RangeId}
use Rattle.mr_base.specs.declared.ids.TxnId.{TxnId}
use Rattle.mr_base.specs.declared.settings.Kind.TheVariants as kinds
use Rattle.mr_base.specs.declared.settings.Kind.{Kind}
use Rattle.range_log.specs.declared.entries.Entry.TheVariants as log
use Rattle.range_log.specs.declared.entries.Entry.{Entry}
use Rattle.range_log.specs.declared.entries.TxnState.TheVariants as states
use Rattle.range_log.specs.declared.entries.TxnState.{TxnState}
use Rattle.run_laws.specs.OrderEvents.{NamesNode, HasJustBounced, IsApplied, IsDelivered, IsFirstAt, IsGivingUp, IsInStep, IsLineDue}
use Rattle.run_laws.specs.Places.{IsInOwnStep, stepping}
use Rattle.run_laws.specs.RangeLines.{HasJustLeased, IsCloseDue, IsLeaseDue, IsLeaseEventAt}
use Rattle.run_words.specs.Askers.{gateway_of, own_txn}
use Rattle.run_words.specs.History.{History, Item, Made, Ran, Ticked}
use Rattle.run_words.specs.Nodes.{is_running}
use Rattle.run_words.specs.Setup.{Setup}
use Rattle.run_words.specs.Steps.{event_of, has_entry, has_ticked}
use Rattle.run_words.specs.Transactions.{beginning, is_open}

-- The order of what happens: each entry belongs to the line behind which it stands, and to the step of a node that
-- makes it there. Kinds of entries that aren't built are permitted nowhere: schema changes and the loads behind them,
-- and the lines of freshness. (This project's profile.)

-- Reads at bounded staleness aren't built.
abbrev pub IsBuilt : Kind → Type 0
IsBuilt kinds.Now = ⊤
IsBuilt (kinds.Ago ms) = ⊤
IsBuilt (kinds.Within ms any) = ⊥

-- A transaction begins at its line, at a node that runs, and once.
pub record IsBeginDue (setup : Setup) (h : History) (t : TxnId) (gateway : NodeId) : Type 0 where
  pub kind : Kind
  pub list : List ℕ
  pub line : IsFirstAt h (events.Txn t gateway kind list)
  pub built : IsBuilt kind
  pub running : is_running setup h gateway ≡ true
  pub once : beginning h t ≡ None

-- A message is sent in a step; in the name of a stopped node to which one came; or as an abort where a wait has ended.
abbrev pub IsSendDue : History → Type 0
IsSendDue h = IsInStep h ⊎ (HasJustBounced h ⊎ ((t : TxnId) × IsGivingUp h t × (has_entry h ≡ false)))

-- A record changes in a step; or an attempt aborts itself where its wait has ended.
abbrev pub IsRecordDue : History → AttemptId → TxnState → Type 0
IsRecordDue h a state =
    IsInStep h ⊎ ((t : TxnId) × IsGivingUp h t × (has_entry h ≡ false) × (state ≡ states.Aborted a))

abbrev pub IsAppendDue : History → RangeId → Entry → Type 0
IsAppendDue h j (log.Lease lease) = IsLeaseDue h j
IsAppendDue h j (log.Close ts) = IsCloseDue h j
IsAppendDue h j (log.State a state) = IsRecordDue h a state
IsAppendDue h j (log.Put a start anchor ts key value) = IsInStep h
IsAppendDue h j (log.Resolve a key fate) = IsInStep h
IsAppendDue h j (log.Load ts key value) = ⊥

-- The refusal of a transaction whose wait has ended says so, and no other does.
abbrev pub IsOfTimeout : Why → Type 0
IsOfTimeout (why.Ambiguous m) = ⊤
IsOfTimeout (why.Timeout m) = ⊤
IsOfTimeout _ = ⊥

-- A transaction is refused in its own step, or where its wait has ended.
abbrev pub IsRefusalDue : History → TxnId → Why → Type 0
IsRefusalDue h t w = (IsInStep h × (own_txn h ≡ Some t) × (¬ IsOfTimeout w)) ⊎ (IsGivingUp h t × IsOfTimeout w)

abbrev pub AnswersAt : Option Event → Bool → NodeId → Type 0
AnswersAt (Some (events.Tick None ms)) ticked n = ⊤
AnswersAt (Some (events.Tick (Some m) ms)) ticked n = m ≡ n
AnswersAt (Some (events.Settle ms)) ticked n = ticked ≡ true
AnswersAt _ ticked n = ⊥

-- A transaction is answered in a step of its gateway, or where the gateway's clock ticks.
abbrev pub IsAnswerDue : History → TxnId → Type 0
IsAnswerDue h t =
    (n : NodeId) × (gateway_of h t ≡ Some n) × ((IsInStep h × (stepping h ≡ Some n)) ⊎ AnswersAt (event_of h) (has_ticked h) n)

-- What was begun at a node is lost where it stops.
abbrev pub IsLossDue : History → TxnId → Type 0
IsLossDue h t = (n : NodeId) × (event_of h ≡ Some (events.Stop n)) × (gateway_of h t ≡ Some n) × (is_open h t ≡ true)

abbrev pub EntryOrder : Setup → History → JournalEntry → Type 0
EntryOrder setup h (entry.Begin t a gateway start limit) = IsBeginDue setup h t gateway
EntryOrder setup h (entry.Sent m from to clock body) = IsSendDue h
EntryOrder setup h (entry.Taken m) = IsDelivered setup h m true
EntryOrder setup h (entry.Bounced m) = IsDelivered setup h m false
EntryOrder setup h (entry.Dropped m) = IsFirstAt h (events.Drop m)
EntryOrder setup h (entry.Append j index e) = IsAppendDue h j e
EntryOrder setup h (entry.Apply n j count) = IsApplied setup h n j count
EntryOrder setup h (entry.Serve a n j span at limit count by known) = IsInStep h
EntryOrder setup h (entry.Fated a b fate) = IsInStep h × IsInOwnStep h a
EntryOrder setup h (entry.Retry t a cause) = IsInStep h × (own_txn h ≡ Some t)
EntryOrder setup h (entry.Ack t ts results) = IsAnswerDue h t
EntryOrder setup h (entry.Fault t ts state) = IsAnswerDue h t
EntryOrder setup h (entry.Refuse t w) = IsRefusalDue h t w
EntryOrder setup h (entry.Lost t) = IsLossDue h t
EntryOrder setup h (entry.Lease j seq holder expiration) = IsLeaseEventAt (event_of h) j × HasJustLeased h j
EntryOrder setup h (entry.LeaseRefused j w) = IsLeaseEventAt (event_of h) j × (has_entry h ≡ false)
EntryOrder setup h (entry.CloseRefused j w) = IsCloseDue h j
EntryOrder setup h (entry.ShowRange j seq holder expiration closed count) = IsFirstAt h (events.ShowRange j)
EntryOrder setup h (entry.ShowNode n clock running at) = IsFirstAt h (events.ShowNode n)
EntryOrder setup h (entry.ShowFlight ms) = IsFirstAt h events.ShowFlight
EntryOrder setup h _ = ⊥

-- Order: each line, each tick inside a `settle` line and each entry comes where it may.
abbrev pub Order : Setup → History → Item → Type 0
Order setup h (Ran line event) = IsLineDue (event_of h) (has_ticked h) × NamesNode setup event
Order setup h (Ticked ms) = (event_of h ≡ Some (events.Settle ms)) × (has_ticked h ≡ false)
Order setup h (Made made) = EntryOrder setup h made
