use Rattle.std.specs.Prelude.{None, Option, Some, ℕ, ⊤, ◌+◌, ◌≡◌}
use Rattle.hlc.specs.Readings.{next_of}
use Rattle.journal.specs.declared.entries.JournalEntry.TheVariants as entry
use Rattle.journal.specs.declared.events.Event.TheVariants as events
use Rattle.journal.specs.declared.events.Event.{Event}
use Rattle.mr_base.specs.Timestamps.{of_reading}
use Rattle.mr_base.specs.declared.ids.AttemptId.{AttemptId}
use Rattle.mr_base.specs.declared.ids.NodeId.{NodeId}
use Rattle.mr_base.specs.declared.settings.Kind.TheVariants as kinds
use Rattle.mr_base.specs.declared.settings.Settings.{Settings}
use Rattle.mr_base.specs.declared.timestamps.Ts.{Ts}
use Rattle.run_words.specs.Clocks.{phys, seen}
use Rattle.run_words.specs.History.{History, Item, Made}
use Rattle.run_words.specs.Setup.{Setup}
use Rattle.run_words.specs.Steps.{event_of}
use Rattle.run_words.specs.Transactions.{attempts}

-- Begun: how attempts are numbered, when a transaction starts, and up to where what it meets may have been before it.
-- (Hybrid logical clocks and uncertainty intervals: Taft et al., SIGMOD 2020.)

-- Attempts are numbered one after the other.
abbrev pub IsNextAttempt : Setup → History → AttemptId → Type 0
IsNextAttempt setup h a = a.0 ≡ attempts setup h + 1

-- A transaction of the present has a limit, the offset above its start. One of the past has none.
abbrev pub limit_at : Option Event → Ts → Settings → Option ℕ
limit_at (Some (events.Txn t gateway kinds.Now list)) start settings = Some (start.wall + settings.max_offset)
limit_at _ start settings = None

pub record IsBegun (setup : Setup) (h : History) (a : AttemptId) (gateway : NodeId) (start : Ts) (limit : Option ℕ) : Type 0 where
  pub attempt : IsNextAttempt setup h a
  pub start_is : start ≡ of_reading (next_of (phys setup h gateway) (seen setup h gateway)) a.0
  pub limit_is : limit ≡ limit_at (event_of h) start setup.settings

abbrev pub Begun : Setup → History → Item → Type 0
Begun setup h (Made (entry.Begin t a gateway start limit)) = IsBegun setup h a gateway start limit
Begun setup h (Made (entry.Retry t a cause)) = IsNextAttempt setup h a
Begun setup h _ = ⊤
