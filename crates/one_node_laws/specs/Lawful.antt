use Rattle.std.specs.Prelude.{List, [], ◌∷◌, ⊤}
use Rattle.journal.specs.declared.entries.JournalEntry.{JournalEntry}
use Rattle.one_node_laws.specs.Appended.{Appended}
use Rattle.one_node_laws.specs.Begun.{Begun}
use Rattle.one_node_laws.specs.Determined.{Determined}
use Rattle.one_node_laws.specs.Laid.{Laid}
use Rattle.one_node_laws.specs.LinesRun.{LinesRun}
use Rattle.one_node_laws.specs.Order.{Order}
use Rattle.one_node_laws.specs.Records.{Records}
use Rattle.one_node_laws.specs.Served.{Served}
use Rattle.one_node_laws.specs.Waited.{Waited}

-- An entry is permitted by those before it, as each of the laws says. Messages don't come on one node.
pub record IsPermitted (s : LinesRun) (before : List JournalEntry) (e : JournalEntry) : Type 0 where
  pub order : Order s before e
  pub served : Served s before e
  pub appended : Appended s before e
  pub laid : Laid s before e
  pub records : Records s before e
  pub determined : Determined s before e
  pub waited : Waited s before e
  pub begun : Begun s before e

-- A journal is lawful for a scenario: each entry is permitted by those before it. So what stood at any
-- moment is lawful too.
abbrev pub IsLawful : LinesRun → List JournalEntry → Type 0
IsLawful s [] = ⊤
IsLawful s (e ∷ before) = IsPermitted s before e × IsLawful s before
