-- How far a search by an index goes, over what is known. (This project's profile.)
use Rattle.std.specs.Prelude.{ℕ, ◌<◌, ◌==◌, false, if◌then◌else◌, List, [], drop, length, Option, Some}
use Rattle.std.specs.List.{AllByRecursion}
use Rattle.std.specs.Option.{option_to_list}
use Rattle.region_sql.specs.declared.row_statements.Term.{Term}
use Rattle.descriptors.specs.Contents.{Contents}
use Rattle.descriptors.specs.declared.table.Table.{Table}
use Rattle.row_locality.specs.Pairs.{KeyValue}
use Rattle.sql_eval.specs.Evaluation.{KeyedRow, followed_answers, has_pair, led_to, matched_rows}
use Rattle.sql_eval.specs.Reads.{Reads}
use Rattle.sql_eval.specs.Search.{Evaluation, gives, ◌>>=◌, followed_by, Lookup, search}
use Rattle.planner.specs.Phases.{IsLookupFor, scanned_rows}
use Rattle.planner.specs.Turns.{AreSame, IsNeeded}
use Rattle.planner.specs.declared.index_search.Sought.{Sought}
use Rattle.planner.specs.declared.index_search.Sought.TheVariants as sought

-- The rows that match, by these look-ups in an index.
abbrev pub sought_rows : Table → List Term → ℕ → List Lookup → Reads → Evaluation (List KeyedRow)
sought_rows t terms index lookups reads =
    followed_by 1 (search reads has_pair lookups) >>= λ first.
    followed_answers reads t (Some (index, [])) first >>= λ answers.
    gives (matched_rows t terms answers)

-- The rows that match among those of these look-ups.
abbrev pub read_rows : Table → List Term → List Lookup → Reads → Evaluation (List KeyedRow)
read_rows t terms lookups reads =
    search reads (λ a. false) lookups >>= λ answers.
    gives (scanned_rows t terms [] answers)

-- The look-up of the row to which an answer in an index leads: in the primary index it is the same.
abbrev pub row_lookup : Table → Lookup → List KeyValue → Option Lookup
row_lookup t x pairs = if x.index == 0 then Some x else led_to t x.index (x, pairs)

-- Behind so many look-ups a span is needed, or they lead to the rows of at most one look-up.
abbrev pub IsSought : Table → ℕ → Reads → List Lookup → Sought → Type 0
IsSought t index known lookups (sought.Asks i ask) =
    (i < length lookups)
    × ((terms : List Term)
    → AreSame known (sought_rows t terms index lookups) (sought_rows t terms index (drop i lookups)))
    × ((terms : List Term) → IsNeeded (sought_rows t terms index (drop i lookups) known) ask)
IsSought t index known lookups (sought.Leads row) =
    ((terms : List Term) → AreSame known (sought_rows t terms index lookups) (read_rows t terms (option_to_list row)))
    × ((c : Contents) → AllByRecursion (IsLookupFor c t) lookups
    → AllByRecursion (IsLookupFor c t) (option_to_list row))
