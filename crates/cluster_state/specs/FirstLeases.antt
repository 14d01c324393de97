use Rattle.std.specs.Prelude.{[], ⊤, ◌∷◌}
use Rattle.journal.specs.declared.entries.JournalEntry.TheVariants as entry
use Rattle.range_log.specs.declared.entries.Entry.TheVariants as log
use Rattle.run_words.specs.History.{History, Item, Made}

-- The ranges begin with their first leases. (This project's profile.)

-- a first lease
abbrev pub IsLeaseItem : Item → Type 0
IsLeaseItem (Made (entry.Append j index (log.Lease lease))) = ⊤
IsLeaseItem x = ⊥

-- first leases alone
abbrev pub AreLeaseItems : History → Type 0
AreLeaseItems [] = ⊤
AreLeaseItems (x ∷ items) = IsLeaseItem x × AreLeaseItems items
