use Rattle.std.specs.Prelude.{◌≤◌, ⊤, List}
use Rattle.journal.specs.declared.entries.JournalEntry.{JournalEntry}
use Rattle.journal.specs.declared.entries.JournalEntry.TheVariants as entry
use Rattle.one_node_laws.specs.Begun.{reading_at}
use Rattle.one_node_laws.specs.LinesRun.{LinesRun}

-- Waited: an acknowledgement or fault is given once its gateway's clock has come to its timestamp's wall.
-- (Commit wait: VanBenschoten et al., SIGMOD 2022.)
abbrev pub Waited : LinesRun → List JournalEntry → JournalEntry → Type 0
Waited s before (entry.Ack t ts results) = ts.wall ≤ (reading_at s before).wall
Waited s before (entry.Fault t ts state) = ts.wall ≤ (reading_at s before).wall
Waited s before e = ⊤
