use Rattle.std.specs.Prelude.{List, [], length, ℕ, ⊤, ◌+◌, ◌∷◌}
use Rattle.journal.specs.declared.entries.JournalEntry.TheVariants as entry
use Rattle.mr_base.specs.declared.ids.RangeId.{RangeId}
use Rattle.range_log.specs.declared.entries.Entry.TheVariants as log
use Rattle.range_log.specs.declared.entries.Entry.{Entry}
use Rattle.run_words.specs.History.{History, Made}

-- What a request appends where it is handled. (Intents and transaction records: Taft et al., SIGMOD 2020.)

-- The entries that were appended to a range behind so many others, as the journal has them. All lists are newest first.
abbrev pub appends : RangeId → ℕ → List Entry → History
appends j count [] = []
appends j count (e ∷ added) = Made (entry.Append j (count + length added + 1) e) ∷ appends j count added

-- An entry lays an intent, settles one, or changes a record.
abbrev pub IsChange : Entry → Type 0
IsChange (log.Put attempt start anchor ts key value) = ⊤
IsChange (log.Resolve attempt key fate) = ⊤
IsChange (log.State attempt state) = ⊤
IsChange e = ⊥

abbrev pub AreChanges : List Entry → Type 0
AreChanges [] = ⊤
AreChanges (e ∷ added) = IsChange e × AreChanges added
