use Rattle.std.specs.Prelude.{ℕ, List}
use Rattle.mr_base.specs.declared.settings.Settings.{Settings}
use Rattle.journal.specs.declared.entries.JournalEntry.{JournalEntry}

-- What is seen of a cluster: its settings, its node's physical clock, and its journal, the newest entry
-- first.
pub record View : Type 0 where
  pub settings : Settings
  pub physical : ℕ
  pub journal : List JournalEntry
