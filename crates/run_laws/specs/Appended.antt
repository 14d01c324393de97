use Rattle.std.specs.List.{Contains}
use Rattle.std.specs.Prelude.{IsSome, List, Option, Some, [], length, true, unwrap_or, ℕ, ⊤, ◌+◌, ◌∷◌, ◌≡◌}
use Rattle.closed_ts.specs.Targets.{at_wall}
use Rattle.journal.specs.declared.entries.How.TheVariants as how
use Rattle.journal.specs.declared.entries.JournalEntry.TheVariants as entry
use Rattle.journal.specs.declared.events.Event.TheVariants as events
use Rattle.journal.specs.declared.events.Event.{Event}
use Rattle.mr_base.specs.Timestamps.{IsBelow}
use Rattle.mr_base.specs.declared.ids.NodeId.{NodeId}
use Rattle.mr_base.specs.declared.ids.RangeId.{RangeId}
use Rattle.mr_base.specs.declared.timestamps.Ts.{Ts}
use Rattle.range_log.specs.Facts.{lease_of}
use Rattle.range_log.specs.declared.entries.Entry.TheVariants as log
use Rattle.range_log.specs.declared.entries.Entry.{Entry}
use Rattle.range_log.specs.declared.entries.Lease.{Lease}
use Rattle.range_rules.specs.Closing.{IsClosing}
use Rattle.range_rules.specs.Leases.{IsAcquired, IsExtended, IsFirst, IsTransferred}
use Rattle.run_words.specs.Clocks.{reading, schema}
use Rattle.run_words.specs.History.{History, Item, Made}
use Rattle.run_words.specs.Logs.{actor, log_of}
use Rattle.run_words.specs.Nodes.{boot, is_running}
use Rattle.run_words.specs.Ranges.{HasQuorum, is_global, range_of, voters_of}
use Rattle.run_words.specs.Relations.{WasServed}
use Rattle.run_words.specs.Serving.{IsHolder, ServedRead}
use Rattle.run_words.specs.Setup.{Setup}
use Rattle.run_words.specs.Steps.{event_of}

-- Appended: who appends to the log of a range, and what a lease or a closed timestamp is. (Taft et al., SIGMOD 2020,
-- on replication and leases; VanBenschoten et al., SIGMOD 2022, on closed timestamps.)

-- A node that runs may act at a line as the holder of a range.
abbrev pub IsActing : Setup → History → NodeId → RangeId → Type 0
IsActing setup h n j = (is_running setup h n ≡ true) × IsHolder setup h n j

-- The first voter of a range.
abbrev pub IsFirstVoter : Setup → History → RangeId → NodeId → Type 0
IsFirstVoter setup h j n = (more : List NodeId) × (voters_of setup h j ≡ n ∷ more)

-- The lease with which a range begins. Its low water is the schema change that made the range, if one did.
pub record IsFirstLease (setup : Setup) (h : History) (j : RangeId) (lease : Lease) : Type 0 where
  pub first : log_of setup h j ≡ []
  pub holder : NodeId
  pub voter : IsFirstVoter setup h j holder
  pub is : IsFirst lease holder (boot setup h holder) (reading setup h holder).wall setup.settings.lease (unwrap_or (schema setup h) (at_wall 0))

-- Under which leases a transfer's low water covers what was served: those of the same holder, boot and low water,
-- which the last one is or extends, directly or through others.
abbrev pub IsSameHolding : Lease → Lease → Type 0
IsSameHolding last lease = (lease.holder ≡ last.holder) × (lease.boot ≡ last.boot) × (lease.low ≡ last.low)

abbrev pub WasServedUnder : Setup → History → RangeId → Lease → ServedRead → Type 0
WasServedUnder setup h j last served =
    WasServed setup served h × (served.range ≡ j) × (served.by ≡ how.Lease)
    × (lease : Lease) × (lease_of served.entries ≡ Some lease) × IsSameHolding last lease

-- The low water of a transfer: no lower than the old one, nor than what was served by lease in this holding.
pub record Covers (setup : Setup) (h : History) (j : RangeId) (last : Lease) (low : Ts) : Type 0 where
  pub old : ¬ IsBelow low last.low
  pub served : (s : ServedRead) → WasServedUnder setup h j last s → ¬ IsBelow low s.read.at

-- A later lease, by its line.
abbrev pub IsNextLease : Setup → History → RangeId → (last lease : Lease) → Option Event → Type 0
IsNextLease setup h j last lease (Some (events.LeaseAcquire r n)) =
    Contains (voters_of setup h j) n × (is_running setup h n ≡ true)
    × IsAcquired last lease n (boot setup h n) (reading setup h n).wall setup.settings.lease
IsNextLease setup h j last lease (Some (events.LeaseTransfer r n)) =
    Contains (voters_of setup h j) n × IsActing setup h last.holder j
    × IsTransferred last lease n (boot setup h n) (reading setup h last.holder).wall setup.settings.lease
    × Covers setup h j last lease.low
IsNextLease setup h j last lease (Some (events.LeaseExtend r)) =
    IsActing setup h last.holder j × IsExtended last lease (reading setup h last.holder).wall setup.settings.lease
IsNextLease setup h j last lease _ = ⊥

abbrev pub IsLeased : Setup → History → RangeId → Lease → Option Event → Type 0
IsLeased setup h j lease (Some events.Begin) = IsFirstLease setup h j lease
IsLeased setup h j lease event =
    (last : Lease) × (lease_of (log_of setup h j) ≡ Some last) × HasQuorum setup h j × IsNextLease setup h j last lease event

-- Each other entry is appended by the holder, while a majority of the voters runs.
pub record IsByHolder (setup : Setup) (h : History) (j : RangeId) : Type 0 where
  pub node : NodeId
  pub actor_is : actor setup h j ≡ Some node
  pub acting : IsActing setup h node j
  pub quorum : HasQuorum setup h j

abbrev pub IsEntryBy : Setup → History → RangeId → Entry → Type 0
IsEntryBy setup h j (log.Lease lease) = IsLeased setup h j lease (event_of h)
IsEntryBy setup h j (log.Close ts) =
    (by : IsByHolder setup h j) × IsClosing (log_of setup h j) (is_global setup h j) (reading setup h by.node) setup.settings ts
IsEntryBy setup h j e = IsByHolder setup h j

-- An entry is the next of its range, which is in force.
pub record IsAppended (setup : Setup) (h : History) (j : RangeId) (index : ℕ) (e : Entry) : Type 0 where
  pub live : IsSome (range_of setup h j)
  pub index_is : index ≡ length (log_of setup h j) + 1
  pub by : IsEntryBy setup h j e

abbrev pub Appended : Setup → History → Item → Type 0
Appended setup h (Made (entry.Append j index e)) = IsAppended setup h j index e
Appended setup h _ = ⊤
