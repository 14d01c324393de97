use Rattle.std.specs.Prelude.{[], ◌∷◌, ◌≡◌, ◌⊎◌, ℕ}
use Rattle.journal.specs.declared.entries.JournalEntry.TheVariants as made
use Rattle.mr_base.specs.declared.ids.NodeId.{NodeId}
use Rattle.mr_base.specs.declared.ids.RangeId.{RangeId}
use Rattle.run_words.specs.History.{History, Made}
use Rattle.run_words.specs.Logs.{applied}
use Rattle.run_words.specs.Setup.{Setup}

-- A replica is to have applied so many entries: nothing happens where it has, else they are applied. (Replication by a
-- log: Taft et al., SIGMOD 2020, in this project's profile.)
abbrev pub Applies : NodeId → RangeId → (count : ℕ) → Setup → History → (items : History) → Type 0
Applies n j count setup h items =
    ((applied setup h n j ≡ count) × (items ≡ [])) ⊎ (items ≡ Made (made.Apply n j count) ∷ [])
