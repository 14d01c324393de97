use Rattle.std.specs.Prelude.{ℕ, ◌==◌, ◌||◌, Bool, true, false, max, if◌then◌else◌, List, [], ◌∷◌, length, Option, Some, None}
use Rattle.mr_base.specs.declared.ids.NodeId.{NodeId}
use Rattle.mr_base.specs.declared.ids.RangeId.{RangeId}
use Rattle.range_log.specs.declared.entries.Entry.{Entry}
use Rattle.range_log.specs.Facts.{first_entries, lease_of}
use Rattle.journal.specs.declared.entries.JournalEntry.TheVariants as entry
use Rattle.journal.specs.declared.events.Event.{Event}
use Rattle.journal.specs.declared.events.Event.TheVariants as events
use Rattle.run_words.specs.History.{Item, Made, History}
use Rattle.std.specs.Option.{option_map}
use Rattle.run_words.specs.Askers.{gateway_of}
use Rattle.run_words.specs.Messages.{mail}
use Rattle.run_words.specs.Setup.{Setup}
use Rattle.run_words.specs.Steps.{Step, Between, Own, Takes, Bounces, event_of, step_of}

-- The logs of the ranges, and how far each replica has applied them. (Replication by a log: Taft et al., SIGMOD
-- 2020, in this project's profile.)

abbrev pub log_after : Item → RangeId → List Entry → List Entry
log_after (Made (entry.Append range index e)) j old = if range.0 == j.0 then e ∷ old else old
log_after _ j old = old

-- The log of a range, the newest entry first, from the entries on with which it begins.
abbrev pub log_of : Setup → History → RangeId → List Entry
log_of setup [] j = setup.beginning j
log_of setup (x ∷ h) j = log_after x j (log_of setup h j)

-- The node that the last lease of a log names.
abbrev pub holder_of : List Entry → Option NodeId
holder_of entries = option_map (λ lease. lease.holder) (lease_of entries)

-- Who appends at a line of leases or of closed timestamps: the node that acquires, else the holder.
abbrev pub appender_at : Option Event → Option NodeId → Option NodeId
appender_at (Some (events.LeaseAcquire range node)) holder = Some node
appender_at (Some (events.LeaseTransfer range node)) holder = holder
appender_at (Some (events.LeaseExtend range)) holder = holder
appender_at (Some (events.Close range)) holder = holder
appender_at _ holder = None

-- The node to whose step an entry of a log belongs: the gateway, or the node that takes the message.
abbrev pub actor_in : History → Step → Option NodeId → Option NodeId
actor_in h Between appender = appender
actor_in h (Own txn) appender = gateway_of h txn
actor_in h (Takes m) appender = option_map (λ sent. sent.to) (mail h m)
actor_in h (Bounces m) appender = None

-- The node to whose step the next entry would belong, where that concerns this range.
abbrev pub actor : Setup → History → RangeId → Option NodeId
actor setup h j = actor_in h (step_of h) (appender_at (event_of h) (holder_of (log_of setup h j)))

-- The ranges are made at a line: what is appended there every replica has.
abbrev pub makes_ranges : Option Event → Bool
makes_ranges (Some events.Begin) = true
makes_ranges (Some (events.Sql text)) = true
makes_ranges _ = false

abbrev pub is_node_of : Option NodeId → NodeId → Bool
is_node_of None n = false
is_node_of (Some m) n = m.0 == n.0

abbrev pub applied_after : Item → Option Event → (RangeId → Option NodeId) → NodeId → RangeId → ℕ → ℕ
applied_after (Made (entry.Append range index e)) event actors n j old =
    if range.0 == j.0
    then (if makes_ranges event || is_node_of (actors range) n then max old index else old)
    else old
applied_after (Made (entry.Apply node range count)) event actors n j old =
    if range.0 == j.0 then (if node.0 == n.0 then max old count else old) else old
applied_after _ event actors n j old = old

-- How many entries of a range a node has applied: those with which the range begins, those up to the last that
-- it appended, and as many as it was told to apply. Only nodes that hold a replica have such a number.
abbrev pub applied : Setup → History → NodeId → RangeId → ℕ
applied setup [] n j = length (setup.beginning j)
applied setup (x ∷ h) n j = applied_after x (event_of h) (actor setup h) n j (applied setup h n j)

-- The entries that a node has applied.
abbrev pub prefix : Setup → History → NodeId → RangeId → List Entry
prefix setup h n j = first_entries (applied setup h n j) (log_of setup h j)
