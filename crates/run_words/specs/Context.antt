use Rattle.std.specs.Prelude.{Bool, Option}
use Rattle.mr_base.specs.declared.ids.NodeId.{NodeId}
use Rattle.mr_base.specs.declared.ids.RangeId.{RangeId}
use Rattle.mr_base.specs.declared.ids.TxnId.{TxnId}
use Rattle.journal.specs.declared.events.Event.{Event}
use Rattle.run_words.specs.History.{History}
use Rattle.run_words.specs.Askers.{own_txn}
use Rattle.run_words.specs.Steps.{Step, event_of, step_of, has_entry, has_ticked, passed}

-- Where the next entry would stand: at which line and whether behind an entry or behind its tick, behind which
-- replica that applied, in which step, and in whose own. (This project's profile.)
pub record Context : Type 0 where
  pub event : Option Event
  pub has_entry : Bool
  pub has_ticked : Bool
  pub passed : Option (NodeId × RangeId)
  pub step : Step
  pub own : Option TxnId

abbrev pub context : History → Context
context h =
    record {
      event = event_of h;
      has_entry = has_entry h;
      has_ticked = has_ticked h;
      passed = passed h;
      step = step_of h;
      own = own_txn h;
    }
