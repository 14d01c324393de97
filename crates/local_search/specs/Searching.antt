-- A search through the partitions of a table as it goes on: the span that it asks next and what it found so
-- far. Source: CockroachDB's documentation of locality optimized search, in this project's profile.
use Rattle.std.specs.Prelude.{ℕ, ◌+◌, ◌==◌, Bool, not, ◌&&◌, if◌then◌else◌, List, [], ◌++◌, length, slice_get, Option, None}
use Rattle.std.specs.List.{remove}
use Rattle.std.specs.Option.{option_to_list}
use Rattle.mr_base.specs.declared.spans.Ask.{Ask}
use Rattle.mr_base.specs.declared.spans.Pair.{Pair}

-- A search: its spans in the order searched, whether it ends at the first span with a pair, how many spans
-- were answered, and the pairs found in them.
pub record Searching : Type 0 where
  pub order : List Ask
  pub stops : Bool
  pub answered : ℕ
  pub found : List Pair

-- The element at a place first, then the others as they stand.
abbrev pub with_first : {X : Type 0} → ℕ → List X → List X
with_first place xs = option_to_list (slice_get xs place) ++ remove xs place

-- A search through these spans, of which the near one stands at this place.
abbrev pub begun : List Ask → ℕ → Bool → Searching
begun spans near stops = record { order = with_first near spans; stops = stops; answered = 0; found = [] }

-- Whether the search ended at a pair.
abbrev pub has_hit : Searching → Bool
has_hit s = s.stops && not (length s.found == 0)

-- The span that is asked next, or none where the search is done.
abbrev pub next_in : Searching → Option Ask
next_in s = if has_hit s then None else slice_get s.order s.answered

-- The search after the span was answered.
abbrev pub after_rows : Searching → List Pair → Searching
after_rows s rows = record s { answered = s.answered + 1; found = s.found ++ rows }
