use Rattle.std.specs.Prelude.{ℕ, List, map, reverse}
use Rattle.journal.specs.declared.entries.JournalEntry.{JournalEntry}
use Rattle.run_words.specs.History.{History, Made}

-- A ledger as contracts see it: all that happened, the newest first, and how many entries can be written without
-- memory.
pub record LedgerValue : Type 0 where
  pub history : History
  pub room : ℕ

-- Entries that are made one after the other, as items, the newest first.
abbrev pub made_all : List JournalEntry → History
made_all entries = map Made (reverse entries)
