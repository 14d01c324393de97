use Rattle.std.specs.Prelude.{Bool, Contains, List, None, Option, Some, false, length, min, true, ℕ, ⊤, ◌+◌, ◌<◌, ◌∷◌, ◌≡◌, ◌⊎◌}
use Rattle.journal.specs.declared.entries.JournalEntry.TheVariants as entry
use Rattle.journal.specs.declared.events.Event.TheVariants as events
use Rattle.journal.specs.declared.events.Event.{Event}
use Rattle.mr_base.specs.declared.ids.MsgId.{MsgId}
use Rattle.mr_base.specs.declared.ids.NodeId.{NodeId}
use Rattle.mr_base.specs.declared.ids.RangeId.{RangeId}
use Rattle.mr_base.specs.declared.ids.TxnId.{TxnId}
use Rattle.run_words.specs.History.{History, Made}
use Rattle.run_words.specs.Logs.{applied, log_of}
use Rattle.run_words.specs.Messages.{Mail, flight, mail}
use Rattle.run_words.specs.Nodes.{is_running}
use Rattle.run_words.specs.Ranges.{HoldsReplica, IsAllApplied}
use Rattle.run_words.specs.Setup.{Setup, node_ids}
use Rattle.run_words.specs.Steps.{Between, Bounces, Own, Step, Takes, event_of, has_entry, has_ticked, passed, step_of}
use Rattle.run_words.specs.Transactions.{is_open}

-- In which places of a line's event the parts of order let an entry stand. (This project's profile.)

-- The first entry behind this line.
abbrev pub IsFirstAt : History → Event → Type 0
IsFirstAt h event = (event_of h ≡ Some event) × (has_entry h ≡ false)

-- A line is due: a `settle` line has ticked.
abbrev pub IsLineDue : Option Event → Bool → Type 0
IsLineDue (Some (events.Settle ms)) ticked = ticked ≡ true
IsLineDue _ ticked = ⊤

-- A line that starts a node, or moves its clock, names one that is there.
abbrev pub NamesNode : Setup → Event → Type 0
NamesNode setup (events.Start n) = Contains (node_ids setup) n
NamesNode setup (events.Tick (Some n) ms) = Contains (node_ids setup) n
NamesNode setup _ = ⊤

-- Messages are delivered and entries applied until none is left: at a `drain` line, and at a `settle` line before it
-- ticks.
abbrev pub DrainsAt : Option Event → Bool → Type 0
DrainsAt (Some events.Drain) ticked = ⊤
DrainsAt (Some (events.Settle ms)) ticked = ticked ≡ false
DrainsAt _ ticked = ⊥

abbrev pub IsDraining : History → Type 0
IsDraining h = DrainsAt (event_of h) (has_ticked h)

-- A node makes a step: a transaction begins there, or it takes a message. At a `timeout` line no step goes on.
abbrev pub ActsAt : Option Event → Step → Type 0
ActsAt (Some (events.Timeout t)) step = ⊥
ActsAt event Between = ⊥
ActsAt event (Own t) = ⊤
ActsAt event (Takes m) = ⊤
ActsAt event (Bounces m) = ⊥

abbrev pub IsInStep : History → Type 0
IsInStep h = ActsAt (event_of h) (step_of h)

-- The wait of a transaction has ended, and it has not been refused yet.
pub record IsGivingUp (h : History) (t : TxnId) : Type 0 where
  pub line : event_of h ≡ Some (events.Timeout t)
  pub open_yet : is_open h t ≡ true

-- A message came to a node that is stopped, just now.
abbrev pub HasJustBounced : History → Type 0
HasJustBounced (Made (entry.Bounced m) ∷ h) = ⊤
HasJustBounced _ = ⊥

-- A message is delivered: at its own line or, where messages are delivered until none is left, as the first in
-- flight, once every running node has applied all it can.
pub record IsDelivered (setup : Setup) (h : History) (m : MsgId) (runs : Bool) : Type 0 where
  pub due : IsFirstAt h (events.Deliver m)
      ⊎ (IsDraining h × ((more : List MsgId) × (flight h ≡ m ∷ more)) × IsAllApplied setup h)
  pub sent : Mail
  pub is_sent : mail h m ≡ Some sent
  pub receiver : is_running setup h sent.to ≡ runs

-- A replica stands before another in the order in which they apply.
abbrev pub IsReplicaBefore : Option (NodeId × RangeId) → NodeId → RangeId → Type 0
IsReplicaBefore None n j = ⊤
IsReplicaBefore (Some x) n j = (x.0.0 < n.0) ⊎ ((x.0 ≡ n) × (x.1.0 < j.0))

-- So many entries are to be applied: at its own line up to so many more, else all, replica by replica.
abbrev pub IsApplyDue : Setup → History → NodeId → RangeId → ℕ → Type 0
IsApplyDue setup h n j count =
    ((more : ℕ) × IsFirstAt h (events.Apply n j more) × (count ≡ min (applied setup h n j + more) (length (log_of setup h j))))
    ⊎ (IsDraining h × (count ≡ length (log_of setup h j)) × IsReplicaBefore (passed h) n j)

-- A replica of a running node applies further entries.
pub record IsApplied (setup : Setup) (h : History) (n : NodeId) (j : RangeId) (count : ℕ) : Type 0 where
  pub due : IsApplyDue setup h n j count
  pub further : applied setup h n j < count
  pub running : is_running setup h n ≡ true
  pub replica : HoldsReplica setup h n j
