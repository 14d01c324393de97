use Rattle.std.specs.Prelude.{All, List, Ok, Err, Result, [], ⊤, ℕ, ◌∷◌, ◌≡◌, ◌⊎◌}
use Rattle.journal.specs.declared.entries.JournalEntry.TheVariants as made
use Rattle.journal.specs.declared.entries.LeaseWhy.TheVariants as why
use Rattle.journal.specs.declared.entries.LeaseWhy.{LeaseWhy}
use Rattle.journal.specs.declared.events.Event.TheVariants as events
use Rattle.journal.specs.declared.events.Event.{Event}
use Rattle.mr_base.specs.Nodes.{IsNode}
use Rattle.mr_base.specs.declared.ids.NodeId.{NodeId}
use Rattle.mr_base.specs.declared.ids.RangeId.{RangeId}
use Rattle.range_log.specs.declared.entries.Entry.TheVariants as log
use Rattle.range_log.specs.declared.entries.Entry.{Entry}
use Rattle.range_log.specs.declared.entries.Lease.{Lease}
use Rattle.range_replicas.specs.RangeValue.{RangeValue}
use Rattle.range_server.specs.Leases.{Acquires, Extends, Transfers}
use Rattle.range_server.specs.Scene.{Scene}
use Rattle.range_server.specs.declared.leases.LeaseRefusal.TheVariants as refusals
use Rattle.range_server.specs.declared.leases.LeaseRefusal.{LeaseRefusal}
use Rattle.run_words.specs.History.{History, Made}
use Rattle.run_words.specs.Nodes.{boot}
use Rattle.run_words.specs.Setup.{Setup}
use Rattle.cluster_state.specs.declared.leases.Ask.TheVariants as asks
use Rattle.cluster_state.specs.declared.leases.Ask.{Ask}

-- What is asked of a lease, and what comes of it. No public clause cites this but the last.

-- the line that asks it
abbrev pub lease_event : Ask → RangeId → NodeId → Event
lease_event asks.Acquire j n = events.LeaseAcquire j n
lease_event (asks.Transfer to boot) j n = events.LeaseTransfer j to
lease_event asks.Extend j n = events.LeaseExtend j

-- the node to which it is handed on is named at its boot
abbrev pub IsAskOf : Ask → RangeValue → Type 0
IsAskOf (asks.Transfer to boot) r = IsNode to × All (λ s. s.node ≡ to → s.boot ≡ boot) r.servers
IsAskOf ask r = ⊤

abbrev pub IsAskAt : Ask → Setup → History → Type 0
IsAskAt (asks.Transfer to at) setup h = IsNode to × (at ≡ boot setup h to)
IsAskAt ask setup h = ⊤

-- what the server does
abbrev pub Gives : Ask → Scene → Result Lease LeaseRefusal → List Entry → Type 0
Gives asks.Acquire sc result after = Acquires sc result after
Gives (asks.Transfer to boot) sc result after = Transfers sc to boot result after
Gives asks.Extend sc result after = Extends sc result after

-- why it doesn't, as the journal says it
abbrev pub IsWhy : LeaseRefusal → LeaseWhy → Type 0
IsWhy refusals.NotVoter w = w ≡ why.NotVoter
IsWhy (refusals.Live expiration) w = w ≡ why.Live expiration
IsWhy refusals.NotHolder w = w ≡ why.NotHolder
IsWhy (refusals.NoQuorum down) w = w ≡ why.NoQuorum down
IsWhy refusals.Memory w = ⊥

-- A lease is appended, and said; or it is said why not. (Leases: Taft et al., SIGMOD 2020, in this project's profile.)
abbrev pub MovesLease : RangeId → History → Type 0
MovesLease j items =
    ((lease : Lease) × (index : ℕ)
    × (items ≡ Made (made.Lease j lease.seq lease.holder lease.expiration) ∷ Made (made.Append j index (log.Lease lease)) ∷ []))
    ⊎ ((w : LeaseWhy) × (items ≡ Made (made.LeaseRefused j w) ∷ []))
