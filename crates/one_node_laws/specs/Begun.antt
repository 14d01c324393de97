use Rattle.std.specs.Prelude.{◌≡◌, ℕ, ◌+◌, ⊤, nat_lt, if◌then◌else◌, List, Option, Some}
use Rattle.mr_base.specs.Timestamps.{of_reading}
use Rattle.mr_base.specs.declared.ids.AttemptId.{AttemptId}
use Rattle.mr_base.specs.declared.ids.NodeId.{NodeId}
use Rattle.mr_base.specs.declared.timestamps.Reading.{Reading}
use Rattle.mr_base.specs.declared.timestamps.Ts.{Ts}
use Rattle.journal.specs.declared.entries.JournalEntry.{JournalEntry}
use Rattle.journal.specs.declared.entries.JournalEntry.TheVariants as entry
use Rattle.one_node_laws.specs.LinesRun.{LinesRun}
use Rattle.one_node_laws.specs.Words.{attempts_of, greatest_start, the_node}

-- What the node's clock shows: its physical part where that is ahead of the starts that it gave, else the
-- greatest of them. (Hybrid logical clocks: Taft et al., SIGMOD 2020.)
abbrev pub reading_at : LinesRun → List JournalEntry → Reading
reading_at s before =
    if nat_lt (greatest_start before).wall s.clock then record { wall = s.clock; logical = 0 } else greatest_start before

-- The next start that it gives: its physical part where that is ahead, else the next logical part.
abbrev pub next_start : LinesRun → List JournalEntry → Reading
next_start s before =
    if nat_lt (greatest_start before).wall s.clock then record { wall = s.clock; logical = 0 }
    else record { wall = (greatest_start before).wall; logical = (greatest_start before).logical + 1 }

pub record IsBegun (s : LinesRun) (before : List JournalEntry) (a : AttemptId) (gateway : NodeId) (start : Ts) (limit : Option ℕ) : Type 0 where
  pub gateway_is : gateway ≡ the_node
  pub attempt : a.0 ≡ attempts_of before + 1
  pub start_is : start ≡ of_reading (next_start s before) a.0
  pub limit_is : limit ≡ Some (start.wall + s.settings.max_offset)

-- Begun: a transaction starts at the next reading of its gateway's clock, with its first attempt's number;
-- attempts are numbered from 1. What is up to the offset above the start may have been before it. (Taft et
-- al., SIGMOD 2020, on uncertainty intervals.)
abbrev pub Begun : LinesRun → List JournalEntry → JournalEntry → Type 0
Begun s before (entry.Begin t a gateway start limit) = IsBegun s before a gateway start limit
Begun s before e = ⊤
