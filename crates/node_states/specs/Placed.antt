use Rattle.std.specs.List.{Contains}
use Rattle.std.specs.Prelude.{IsSome, Option, Some, length, ℕ, ⊤, ◌+◌, ◌≡◌, ◌≢◌, ◌⊎◌}
use Rattle.journal.specs.declared.entries.JournalEntry.TheVariants as entry
use Rattle.journal.specs.declared.entries.Shown.TheVariants as shown
use Rattle.journal.specs.declared.entries.Shown.{Shown}
use Rattle.journal.specs.declared.events.Event.TheVariants as events
use Rattle.journal.specs.declared.events.Event.{Event}
use Rattle.mr_base.specs.declared.ids.NodeId.{NodeId}
use Rattle.mr_base.specs.declared.ids.RangeId.{RangeId}
use Rattle.mr_base.specs.declared.messages.Request.{Request}
use Rattle.mr_base.specs.declared.timestamps.Reading.{Reading}
use Rattle.range_log.specs.Facts.{lease_of}
use Rattle.range_log.specs.declared.entries.Entry.TheVariants as log
use Rattle.range_log.specs.declared.entries.Entry.{Entry}
use Rattle.range_log.specs.declared.entries.Lease.{Lease}
use Rattle.range_rules.specs.Leases.{IsTransferred}
use Rattle.run_laws.specs.Appended.{IsActing, IsEntryBy, IsFirstLease, IsNextLease}
use Rattle.run_laws.specs.Begun.{Begun}
use Rattle.run_laws.specs.Messages.{IsAllowedAt, IsDownSent, IsInFlight, IsReplySent}
use Rattle.run_laws.specs.Order.{Order}
use Rattle.run_laws.specs.Places.{IsInOwnStep, stepping}
use Rattle.run_laws.specs.Waited.{Waited}
use Rattle.run_words.specs.Askers.{asker_of, range_asked}
use Rattle.run_words.specs.Clocks.{reading}
use Rattle.run_words.specs.Happened.{Always}
use Rattle.run_words.specs.History.{History, Item, Made}
use Rattle.run_words.specs.Logs.{log_of}
use Rattle.run_words.specs.Messages.{messages}
use Rattle.run_words.specs.Nodes.{boot}
use Rattle.run_words.specs.Ranges.{HasQuorum, HoldsReplica, range_of, voters_of}
use Rattle.run_words.specs.Setup.{Setup}
use Rattle.run_words.specs.Steps.{event_of}

-- The parts of the laws that the nodes keep by themselves, whatever the coordinators of transactions ask. What a request
-- asks, and that it wasn't sent before, is left to those; so is the low water of a lease that is handed on.

-- A request is sent in its transaction's own step by the gateway to another replica, with what the gateway's clock shows.
pub record IsRequestPlaced (setup : Setup) (h : History) (from to : NodeId) (clock : Option Reading) (q : Request) : Type 0 where
  pub place : IsInOwnStep h (asker_of q)
  pub allowed : IsAllowedAt (event_of h) q
  pub sender : stepping h ≡ Some from
  pub receiver : HoldsReplica setup h to (range_asked q)
  pub other : to ≢ from
  pub clock_is : clock ≡ Some (reading setup h from)

abbrev pub IsSentPlaced : Setup → History → NodeId → NodeId → Option Reading → Shown → Type 0
IsSentPlaced setup h from to clock (shown.Request q) = IsRequestPlaced setup h from to clock q
IsSentPlaced setup h from to clock body = IsReplySent setup h from to clock body ⊎ IsDownSent h from to clock body

abbrev pub MessagePlaced : Setup → History → Item → Type 0
MessagePlaced setup h (Made (entry.Sent m from to clock body)) =
    (m.0 ≡ messages setup h + 1) × IsSentPlaced setup h from to clock body
MessagePlaced setup h (Made (entry.Taken m)) = IsInFlight h m
MessagePlaced setup h (Made (entry.Bounced m)) = IsInFlight h m
MessagePlaced setup h (Made (entry.Dropped m)) = IsInFlight h m
MessagePlaced setup h _ = ⊤

-- A later lease, by its line.
abbrev pub IsNextLeaseBy : Setup → History → RangeId → (last lease : Lease) → Option Event → Type 0
IsNextLeaseBy setup h j last lease (Some (events.LeaseTransfer r n)) =
    Contains (voters_of setup h j) n × IsActing setup h last.holder j
    × IsTransferred last lease n (boot setup h n) (reading setup h last.holder).wall setup.settings.lease
IsNextLeaseBy setup h j last lease event = IsNextLease setup h j last lease event

abbrev pub IsLeasedBy : Setup → History → RangeId → Lease → Option Event → Type 0
IsLeasedBy setup h j lease (Some events.Begin) = IsFirstLease setup h j lease
IsLeasedBy setup h j lease event =
    (last : Lease) × (lease_of (log_of setup h j) ≡ Some last) × HasQuorum setup h j × IsNextLeaseBy setup h j last lease event

abbrev pub IsEntryPlaced : Setup → History → RangeId → Entry → Type 0
IsEntryPlaced setup h j (log.Lease lease) = IsLeasedBy setup h j lease (event_of h)
IsEntryPlaced setup h j e = IsEntryBy setup h j e

pub record IsAppendPlaced (setup : Setup) (h : History) (j : RangeId) (index : ℕ) (e : Entry) : Type 0 where
  pub live : IsSome (range_of setup h j)
  pub index_is : index ≡ length (log_of setup h j) + 1
  pub by : IsEntryPlaced setup h j e

abbrev pub AppendPlaced : Setup → History → Item → Type 0
AppendPlaced setup h (Made (entry.Append j index e)) = IsAppendPlaced setup h j index e
AppendPlaced setup h _ = ⊤

-- What holds of an item, given what happened before it.
pub record IsPlacedItem (setup : Setup) (h : History) (x : Item) : Type 0 where
  pub order : Order setup h x
  pub message : MessagePlaced setup h x
  pub append : AppendPlaced setup h x
  pub waited : Waited setup h x
  pub begun : Begun setup h x

-- These parts of the laws hold of all that happened.
abbrev pub KeepsLaws : Setup → History → Type 0
KeepsLaws setup h = Always (λ x older. IsPlacedItem setup older x) h
