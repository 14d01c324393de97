-- How far the look-ups of new rows go, over what is known. (This project's profile.)
use Rattle.std.specs.Prelude.{◌<◌, Bool, true, false, List, drop, length}
use Rattle.std.specs.List.{list_any}
use Rattle.sql_eval.specs.Evaluation.{KeyedRow, meets_other}
use Rattle.sql_eval.specs.Reads.{Reads}
use Rattle.sql_eval.specs.Search.{Evaluation, gives, ◌>>=◌, Lookup, search}
use Rattle.planner.specs.Turns.{AreSame, IsNeeded}
use Rattle.planner.specs.declared.unique_check.Passing.{Passing}
use Rattle.planner.specs.declared.unique_check.Passing.TheVariants as passing

-- Whether one of these look-ups meets a row that isn't replaced.
abbrev pub meets : List KeyedRow → List Lookup → Reads → Evaluation Bool
meets replaced lookups reads =
    search reads (meets_other replaced) lookups >>= λ answers.
    gives (list_any (meets_other replaced) answers)

-- Look-ups go on to the next span, or to a row that isn't replaced, or to their end.
abbrev pub IsPassed : List KeyedRow → List Lookup → Reads → Passing → Type 0
IsPassed replaced lookups known (passing.Asks i ask) =
    (i < length lookups)
    × AreSame known (meets replaced lookups) (meets replaced (drop i lookups))
    × IsNeeded (meets replaced (drop i lookups) known) ask
IsPassed replaced lookups known passing.Meets = AreSame known (meets replaced lookups) (λ reads. gives true)
IsPassed replaced lookups known passing.Passes = AreSame known (meets replaced lookups) (λ reads. gives false)
