use Rattle.std.specs.Prelude.{Bool, true, false, Option, Some, None, [], ◌∷◌}
use Rattle.mr_base.specs.declared.ids.NodeId.{NodeId}
use Rattle.mr_base.specs.declared.ids.RangeId.{RangeId}
use Rattle.mr_base.specs.declared.ids.TxnId.{TxnId}
use Rattle.mr_base.specs.declared.ids.MsgId.{MsgId}
use Rattle.journal.specs.declared.events.Event.{Event}
use Rattle.journal.specs.declared.events.Event.TheVariants as events
use Rattle.journal.specs.declared.entries.JournalEntry.TheVariants as entry
use Rattle.run_words.specs.History.{Item, Ran, Ticked, Made, History}

-- In which step of the cluster the next entry would stand. (This project's profile.)

abbrev pub event_after : Item → Option Event → Option Event
event_after (Ran line event) old = Some event
event_after _ old = old

-- The event of the line that was run last.
abbrev pub event_of : History → Option Event
event_of [] = None
event_of (x ∷ h) = event_after x (event_of h)

-- What a node does at one time: nothing; a transaction begins there, or its wait is ended; a message is
-- taken; or a message comes to a node that is stopped.
pub data Step : Type 0 where
  Between : Step
  Own : (txn : TxnId) → Step
  Takes : (message : MsgId) → Step
  Bounces : (message : MsgId) → Step

-- Each line, the tick inside a `settle` line, and the application of entries end the step before.
abbrev pub step_after : Item → Step → Step
step_after (Ran line (events.Timeout txn)) old = Own txn
step_after (Ran line event) old = Between
step_after (Ticked ms) old = Between
step_after (Made (entry.Apply node range count)) old = Between
step_after (Made (entry.Begin txn attempt gateway start limit)) old = Own txn
step_after (Made (entry.Taken m)) old = Takes m
step_after (Made (entry.Bounced m)) old = Bounces m
step_after _ old = old

abbrev pub step_of : History → Step
step_of [] = Between
step_of (x ∷ h) = step_after x (step_of h)

-- The message that a step takes, or that comes to a stopped node in it.
abbrev pub taken_in : Step → Option MsgId
taken_in (Takes m) = Some m
taken_in _ = None

abbrev pub answered_in : Step → Option MsgId
answered_in (Takes m) = Some m
answered_in (Bounces m) = Some m
answered_in _ = None

abbrev pub has_entry_after : Item → Bool → Bool
has_entry_after (Ran line event) old = false
has_entry_after (Made made) old = true
has_entry_after _ old = old

-- An entry stands behind the last line.
abbrev pub has_entry : History → Bool
has_entry [] = false
has_entry (x ∷ h) = has_entry_after x (has_entry h)

abbrev pub has_ticked_after : Item → Bool → Bool
has_ticked_after (Ran line event) old = false
has_ticked_after (Ticked ms) old = true
has_ticked_after _ old = old

-- The tick inside the last line has been.
abbrev pub has_ticked : History → Bool
has_ticked [] = false
has_ticked (x ∷ h) = has_ticked_after x (has_ticked h)

abbrev pub passed_after : Item → Option (NodeId × RangeId) → Option (NodeId × RangeId)
passed_after (Ran line event) old = None
passed_after (Ticked ms) old = None
passed_after (Made (entry.Taken m)) old = None
passed_after (Made (entry.Bounced m)) old = None
passed_after (Made (entry.Apply node range count)) old = Some (node, range)
passed_after _ old = old

-- The replica that applied entries last, since the last message was delivered at the last line.
abbrev pub passed : History → Option (NodeId × RangeId)
passed [] = None
passed (x ∷ h) = passed_after x (passed h)
