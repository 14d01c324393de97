-- Plans as scripts. (This project's profile.)
use Rattle.std.specs.Prelude.{◌≡◌, Bool, true, false, List, Ok, Err}
use Rattle.mr_base.specs.declared.script.Fed.{Fed}
use Rattle.mr_base.specs.declared.script.Need.TheVariants.{Done, Fault}
use Rattle.mr_base.specs.declared.states.SqlState.{SqlState}
use Rattle.row_locality.specs.Plain.{PlainDatabase, IsValid}
use Rattle.sql_eval.specs.Agreement.{Agrees, AreChanges}
use Rattle.sql_eval.specs.Evaluation.{Setting}
use Rattle.sql_eval.specs.Execution.{exec}
use Rattle.sql_eval.specs.Laws.{IsSoundSetting}
use Rattle.sql_eval.specs.NextSpan.{program_of}
use Rattle.planner.specs.declared.plan.State.{State}
use Rattle.planner.specs.declared.plan.State.TheVariants as states

-- A plan: where and how its list runs, what it was fed, and whether its writes stand.
pub record Planned : Type 0 where
  pub setting : Setting
  pub fed : List Fed
  pub done : Bool

abbrev pub is_done : State → Bool
is_done (states.Working p) = false
is_done (states.Faulty code) = false
is_done (states.Done x) = true
is_done states.Lost = false

-- Executing a plan's list on a database is what the plan came to over what it was fed: where it needs nothing
-- more, its answers and exactly its writes; where it has a fault, that fault.
pub record IsExecutedOn (s : Setting) (fed : List Fed) (d : PlainDatabase) : Type 0 where
  pub done : (program_of s).need_after fed ≡ Done → (after : PlainDatabase)
      × (exec s.layout.catalog s.region s.list d ≡ Ok ((program_of s).answers_after fed, after))
      × AreChanges s.layout d after ((program_of s).writes_after fed)
  pub fault : (code : SqlState) → (program_of s).need_after fed ≡ Fault code
      → exec s.layout.catalog s.region s.list d ≡ Err code

-- It is so on every valid database that agrees with what was fed.
abbrev pub PlansAreExecuted : Type 0
PlansAreExecuted = (s : Setting) (fed : List Fed) (d : PlainDatabase) → IsSoundSetting s → IsValid s.layout.catalog d
    → Agrees s.layout d fed → IsExecutedOn s fed d
