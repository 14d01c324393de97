use Rattle.std.specs.Prelude.{◌≡◌, ◌⊎◌, ◌<◌, List, [], ◌∷◌, ◌++◌}
use Rattle.mr_base.specs.declared.ids.TxnId.{TxnId}
use Rattle.journal.specs.Names.{NamesOnly}
use Rattle.journal.specs.declared.entries.JournalEntry.{JournalEntry}
use Rattle.journal.specs.declared.events.Event.{Event}
use Rattle.journal.specs.declared.events.Event.TheVariants as events
use Rattle.one_node_laws.specs.Answered.{AreAnswered}
use Rattle.one_node_laws.specs.Caused.{IsCaused}
use Rattle.one_node_laws.specs.Lawful.{IsLawful}
use Rattle.one_node_laws.specs.LinesRun.{LinesRun, NumberedEvent}
use Rattle.one_node_laws.specs.Settled.{IsSettled}
use Rattle.one_node_laws.specs.Whole.{IsWhole}

-- A scenario that goes on with further lines, the newest first.
abbrev pub going_on : List NumberedEvent → LinesRun → LinesRun
going_on later s = record { settings = s.settings; clock = s.clock; events = later ++ s.events }

abbrev pub IsLineOf : TxnId → Event → Type 0
IsLineOf t (events.Txn u gateway kind list) = t ≡ u
IsLineOf t e = ⊥

-- One of these lines is that of a transaction.
abbrev pub HasLine : List NumberedEvent → TxnId → Type 0
HasLine [] t = ⊥
HasLine (e ∷ es) t = IsLineOf t e.event ⊎ HasLine es t

-- A journal is a run of these lines: it is lawful and each refusal in it is caused, for whatever scenario goes
-- on from these lines; it is whole for them, and settled.
pub record IsRun (s : LinesRun) (journal : List JournalEntry) : Type 0 where
  pub lawful : (later : List NumberedEvent) → IsLawful (going_on later s) journal
  pub caused : (later : List NumberedEvent) → IsCaused (going_on later s) journal
  pub whole : IsWhole s journal
  pub settled : IsSettled s journal
  pub answered : s.settings.max_offset < s.settings.lease → AreAnswered journal
  pub names : NamesOnly (HasLine s.events) journal
