use Rattle.std.specs.List.{Contains}
use Rattle.std.specs.Prelude.{Bool, Option, Some, length, ℕ, ◌<◌, ◌≡◌, ◌≤◌}
use Rattle.journal.specs.declared.entries.LeaseWhy.TheVariants as lease_why
use Rattle.journal.specs.declared.entries.LeaseWhy.{LeaseWhy}
use Rattle.journal.specs.declared.events.Event.TheVariants as events
use Rattle.journal.specs.declared.events.Event.{Event}
use Rattle.mr_base.specs.declared.ids.NodeId.{NodeId}
use Rattle.mr_base.specs.declared.ids.RangeId.{RangeId}
use Rattle.mr_base.specs.declared.timestamps.Reading.{Reading}
use Rattle.mr_base.specs.declared.timestamps.Ts.{Ts}
use Rattle.range_log.specs.Facts.{closed_of, lease_of}
use Rattle.range_log.specs.declared.entries.Lease.{Lease}
use Rattle.run_laws.specs.Appended.{IsActing}
use Rattle.run_laws.specs.NoQuorum.{LacksQuorum}
use Rattle.run_words.specs.Clocks.{reading}
use Rattle.run_words.specs.History.{History}
use Rattle.run_words.specs.Logs.{holder_of, log_of}
use Rattle.run_words.specs.Nodes.{boot, is_running}
use Rattle.run_words.specs.Ranges.{voters_of}
use Rattle.run_words.specs.Setup.{Setup}

-- What the lines of leases, closed timestamps and states say. (This project's profile.)

-- The last lease of a range, as a line shows it.
abbrev pub IsShownLease : Setup → History → RangeId → ℕ → NodeId → ℕ → Type 0
IsShownLease setup h j seq holder expiration =
    (lease : Lease) × (lease_of (log_of setup h j) ≡ Some lease) × (seq ≡ lease.seq) × (holder ≡ lease.holder) × (expiration ≡ lease.expiration)

-- The holder that the log names can act.
abbrev pub HasActing : Setup → History → RangeId → Type 0
HasActing setup h j = (n : NodeId) × (holder_of (log_of setup h j) ≡ Some n) × IsActing setup h n j

-- Why a node doesn't take a lease: it is no voter; or the present lease isn't expired; or no majority runs.
abbrev pub IsNotAcquired : Setup → History → RangeId → NodeId → LeaseWhy → Type 0
IsNotAcquired setup h j n lease_why.NotVoter = ¬ Contains (voters_of setup h j) n
IsNotAcquired setup h j n (lease_why.Live expiration) =
    Contains (voters_of setup h j) n × (lease : Lease) × (lease_of (log_of setup h j) ≡ Some lease) × (lease.expiration ≡ expiration)
    × ((reading setup h n).wall ≤ expiration)
IsNotAcquired setup h j n (lease_why.NoQuorum down) =
    Contains (voters_of setup h j) n
    × ((lease : Lease) × (lease_of (log_of setup h j) ≡ Some lease) × (lease.expiration < (reading setup h n).wall))
    × LacksQuorum setup h j down
IsNotAcquired setup h j n lease_why.NotHolder = ⊥

-- Why a lease isn't given to a node: the holder can't act; or the node is no voter; or no majority runs.
abbrev pub IsNotTransferred : Setup → History → RangeId → NodeId → LeaseWhy → Type 0
IsNotTransferred setup h j n lease_why.NotHolder = ¬ HasActing setup h j
IsNotTransferred setup h j n lease_why.NotVoter = HasActing setup h j × (¬ Contains (voters_of setup h j) n)
IsNotTransferred setup h j n (lease_why.NoQuorum down) =
    HasActing setup h j × Contains (voters_of setup h j) n × LacksQuorum setup h j down
IsNotTransferred setup h j n (lease_why.Live expiration) = ⊥

-- Why a lease isn't extended, or a timestamp closed: the holder can't act; or no majority runs.
abbrev pub IsNotKept : Setup → History → RangeId → LeaseWhy → Type 0
IsNotKept setup h j lease_why.NotHolder = ¬ HasActing setup h j
IsNotKept setup h j (lease_why.NoQuorum down) = HasActing setup h j × LacksQuorum setup h j down
IsNotKept setup h j _ = ⊥

abbrev pub IsLeaseRefused : Setup → History → RangeId → LeaseWhy → Option Event → Type 0
IsLeaseRefused setup h j w (Some (events.LeaseAcquire r n)) = IsNotAcquired setup h j n w
IsLeaseRefused setup h j w (Some (events.LeaseTransfer r n)) = IsNotTransferred setup h j n w
IsLeaseRefused setup h j w (Some (events.LeaseExtend r)) = IsNotKept setup h j w
IsLeaseRefused setup h j w _ = ⊥

-- What a node is, as a line shows it.
pub record IsShownNode (setup : Setup) (h : History) (n : NodeId) (clock : Reading) (running : Bool) (at : ℕ) : Type 0 where
  pub clock_is : clock ≡ reading setup h n
  pub running_is : running ≡ is_running setup h n
  pub boot_is : at ≡ boot setup h n

-- What a range is, as a line shows it: from the whole log.
pub record IsShownRange (setup : Setup) (h : History) (j : RangeId) (seq : ℕ) (holder : NodeId) (expiration : ℕ) (closed : Ts) (count : ℕ) : Type 0 where
  pub lease : IsShownLease setup h j seq holder expiration
  pub closed_is : closed ≡ closed_of (log_of setup h j)
  pub count_is : count ≡ length (log_of setup h j)
