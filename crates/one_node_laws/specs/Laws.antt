use Rattle.std.specs.Prelude.{◌↔◌, ℕ, List}
use Rattle.mr_base.specs.Spans.{InSpan}
use Rattle.mvcc_range.specs.Answer.{IsRow}
use Rattle.journal.specs.declared.entries.JournalEntry.{JournalEntry}
use Rattle.one_node_laws.specs.Decided.{IsHeld}
use Rattle.one_node_laws.specs.Lawful.{IsLawful}
use Rattle.one_node_laws.specs.LinesRun.{LinesRun}
use Rattle.one_node_laws.specs.Serial.{IsSerial}
use Rattle.one_node_laws.specs.Visible.{IsVisible}
use Rattle.one_node_laws.specs.Words.{ServedRead, WasServed, log_of, the_range}

-- Served is held: the rows of each read that was served are what the commits of the whole run make below
-- its timestamp, whatever came later.
abbrev pub ServedIsHeld : Type 0
ServedIsHeld =
    (s : LinesRun) (journal : List JournalEntry) → IsLawful s journal → (x : ServedRead) → WasServed the_range x journal
    → (key value : List ℕ) → InSpan x.read.span key → (IsRow x.entries x.read key value ↔ IsHeld (log_of the_range journal) x.read.at key value)

-- Every lawful journal is serial.
abbrev pub LawfulIsSerial : Type 0
LawfulIsSerial = (s : LinesRun) (journal : List JournalEntry) → IsLawful s journal → IsSerial s journal

-- Every lawful journal is visible.
abbrev pub LawfulIsVisible : Type 0
LawfulIsVisible = (s : LinesRun) (journal : List JournalEntry) → IsLawful s journal → IsVisible journal
