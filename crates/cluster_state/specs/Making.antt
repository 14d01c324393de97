use Rattle.std.specs.Prelude.{[], length, ℕ, ◌+◌, ◌++◌, ◌∷◌, ◌≡◌}
use Rattle.journal.specs.declared.entries.JournalEntry.TheVariants as entry
use Rattle.mr_base.specs.declared.ids.RangeId.{RangeId}
use Rattle.range_log.specs.declared.entries.Entry.TheVariants as log
use Rattle.range_log.specs.declared.entries.Lease.{Lease}
use Rattle.replica_states.specs.Making.{IsMaking}
use Rattle.run_words.specs.History.{History, Item, Made}
use Rattle.cluster_state.specs.FirstLeases.{AreLeaseItems}
use Rattle.cluster_state.specs.Tied.{HasMade, IsTied, past, the_setup}
use Rattle.cluster_state.specs.declared.state.State.{State}

-- The first lease of a range is appended.
abbrev pub first_lease : RangeId → Lease → Item
first_lease j lease = Made (entry.Append j 1 (log.Lease lease))

-- A further range has begun.
pub record HasMadeRange (old new : State) : Type 0 where
  pub range : RangeId
  pub lease : Lease
  pub made : HasMade (first_lease range lease ∷ []) old new
  pub count : length new.ranges.items ≡ length old.ranges.items + 1
  pub making : IsMaking (the_setup new) (past new) (length old.ranges.items + 1)

-- So many ranges have begun.
pub record IsOnTheWay (old now : State) (place : ℕ) : Type 0 where
  pub stage : now.stage ≡ old.stage
  pub tied : IsTied now
  pub count : length now.ranges.items ≡ place
  pub making : IsMaking (the_setup now) (past now) place
  pub items : History
  pub history : past now ≡ items ++ past old
  pub leases : AreLeaseItems items
