use Rattle.std.specs.Prelude.{None, Option, Some, [], false, ⊤, ◌<◌, ◌∷◌, ◌≡◌, ◌⊎◌}
use Rattle.journal.specs.declared.entries.JournalEntry.TheVariants as entry
use Rattle.journal.specs.declared.events.Event.TheVariants as events
use Rattle.journal.specs.declared.events.Event.{Event}
use Rattle.mr_base.specs.declared.ids.RangeId.{RangeId}
use Rattle.range_log.specs.declared.entries.Entry.TheVariants as log
use Rattle.run_words.specs.History.{History, Item, Made, Ran}
use Rattle.run_words.specs.Steps.{event_of, has_entry}

-- The lines that make entries of ranges, or say why not: `begin`, leases, closed timestamps. (This project's profile.)

abbrev pub reached_after : Item → Option RangeId → Option RangeId
reached_after (Ran line event) old = None
reached_after (Made (entry.Append j index e)) old = Some j
reached_after (Made (entry.CloseRefused j why)) old = Some j
reached_after _ old = old

-- The range whose entry or refusal to close stands last behind the line.
abbrev pub reached : History → Option RangeId
reached [] = None
reached (x ∷ h) = reached_after x (reached h)

-- Ranges are gone through by their numbers.
abbrev pub IsBehind : Option RangeId → RangeId → Type 0
IsBehind None j = ⊤
IsBehind (Some r) j = r.0 < j.0

-- A line speaks of the lease of a range.
abbrev pub IsLeaseLine : Event → RangeId → Type 0
IsLeaseLine (events.LeaseAcquire r n) j = r ≡ j
IsLeaseLine (events.LeaseTransfer r n) j = r ≡ j
IsLeaseLine (events.LeaseExtend r) j = r ≡ j
IsLeaseLine _ j = ⊥

-- A line closes a timestamp of a range.
abbrev pub IsCloseLine : Event → RangeId → Type 0
IsCloseLine (events.Close None) j = ⊤
IsCloseLine (events.Close (Some r)) j = r ≡ j
IsCloseLine _ j = ⊥

abbrev pub IsLeaseEventAt : Option Event → RangeId → Type 0
IsLeaseEventAt None j = ⊥
IsLeaseEventAt (Some event) j = IsLeaseLine event j

abbrev pub IsCloseEventAt : Option Event → RangeId → Type 0
IsCloseEventAt None j = ⊥
IsCloseEventAt (Some event) j = IsCloseLine event j

-- The first leases are appended at `begin`, in range order; each other lease comes first at its line.
abbrev pub IsLeaseDue : History → RangeId → Type 0
IsLeaseDue h j =
    ((event_of h ≡ Some events.Begin) × IsBehind (reached h) j)
    ⊎ (IsLeaseEventAt (event_of h) j × (has_entry h ≡ false))

-- A timestamp is closed, or that is refused, range by range.
abbrev pub IsCloseDue : History → RangeId → Type 0
IsCloseDue h j = IsCloseEventAt (event_of h) j × IsBehind (reached h) j

-- A lease of a range was appended just now.
abbrev pub HasJustLeased : History → RangeId → Type 0
HasJustLeased (Made (entry.Append r index (log.Lease lease)) ∷ h) j = r ≡ j
HasJustLeased _ j = ⊥
