use Rattle.std.specs.Prelude.{◌≡◌, ◌⊎◌, List, [], ◌∷◌}
use Rattle.mr_base.specs.declared.ids.TxnId.{TxnId}
use Rattle.journal.specs.declared.entries.JournalEntry.{JournalEntry}
use Rattle.journal.specs.declared.entries.JournalEntry.TheVariants as entry
use Rattle.one_node_laws.specs.Words.{Beginning, Began}

-- A transaction was acknowledged with its rows, or has its SQL fault.
abbrev pub HasAnswer : TxnId → List JournalEntry → Type 0
HasAnswer t [] = ⊥
HasAnswer t (entry.Ack txn ts results ∷ before) = (t ≡ txn) ⊎ HasAnswer t before
HasAnswer t (entry.Fault txn ts state ∷ before) = (t ≡ txn) ⊎ HasAnswer t before
HasAnswer t (e ∷ before) = HasAnswer t before

-- Answered: each transaction that began has its rows or its fault.
abbrev pub AreAnswered : List JournalEntry → Type 0
AreAnswered journal = (b : Beginning) → Began b journal → HasAnswer b.txn journal
