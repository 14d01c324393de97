use Rattle.std.specs.Prelude.{◌≡◌, ℕ, ◌<◌, List, [], ◌∷◌, length, slice_get, unwrap_or}
use Rattle.mr_base.specs.declared.ids.TxnId.{TxnId}
use Rattle.journal.specs.declared.entries.JournalEntry.{JournalEntry}
use Rattle.journal.specs.declared.entries.JournalEntry.TheVariants as entry

-- The name of a transaction, by its place among the names.
abbrev pub name_of : List (List ℕ) → TxnId → List ℕ
name_of names t = unwrap_or (slice_get names t.0) []

-- An entry names a transaction.
abbrev pub Names : JournalEntry → TxnId → Type 0
Names (entry.Begin txn attempt gateway start limit) t = t ≡ txn
Names (entry.Retry txn attempt cause) t = t ≡ txn
Names (entry.Ack txn ts results) t = t ≡ txn
Names (entry.Fault txn ts state) t = t ≡ txn
Names (entry.Refuse txn why) t = t ≡ txn
Names (entry.Lost txn) t = t ≡ txn
Names _ t = ⊥

-- An entry names only transactions that have a name.
abbrev pub NamesWithin : List (List ℕ) → JournalEntry → Type 0
NamesWithin names e = (t : TxnId) → Names e t → t.0 < length names

-- Each entry names only transactions of which P holds.
abbrev pub NamesOnly : (TxnId → Type 0) → List JournalEntry → Type 0
NamesOnly P [] = Unit {0}
NamesOnly P (e ∷ es) = ((t : TxnId) → Names e t → P t) × NamesOnly P es
