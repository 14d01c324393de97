-- What is kept of the spans that were fed, by their numbers in the order of feeding, from 0 on. (This
-- project's profile.)
use Rattle.std.specs.Prelude.{◌≡◌, ℕ, ◌<◌, ◌++◌, ◌∷◌, [], Bool, List, find, filter_map, length, slice_get, Option, Some, None, nat_eq}
use Rattle.std.specs.Cmp.Lexicographic.{pointwise}
use Rattle.std.specs.FinMap.Entries.{find as value_at}
use Rattle.std.specs.List.{AllByRecursion}
use Rattle.mr_base.specs.declared.script.Fed.{Fed}
use Rattle.mr_base.specs.declared.spans.Ask.{Ask}
use Rattle.mr_base.specs.declared.spans.Span.{Span}
use Rattle.row_locality.specs.Spans.{point_of}
use Rattle.sql_eval.specs.OwnWrites.{Place, place_cmp}
use Rattle.sql_eval.specs.Reads.{covers}

-- Whether a span is that of one key, its lower end.
abbrev pub is_point : Span → Bool
is_point s = pointwise nat_eq s.hi (s.lo ++ 0 ∷ [])

-- The ask for one key of a range.
abbrev pub ask_at : Place → Ask
ask_at p = record { range = p.0; span = point_of p.1 }

-- The first span fed that covers an ask.
abbrev pub first_covering : Ask → List Fed → Option Fed
first_covering ask fed = find (covers ask) fed

-- The spans fed that have these numbers.
abbrev pub those_numbered : List Fed → List ℕ → List Fed
those_numbered fed numbers = filter_map (slice_get fed) numbers

-- The number that is kept of a place is that of the first span fed that covers it. A place without one is
-- covered by a wider span first, or by none.
pub record AreNumbered (fed : List Fed) (points : List (Place × ℕ)) (wide : List ℕ) : Type 0 where
  pub there : (p : Place) (i : ℕ) → value_at place_cmp p points ≡ Some i
      → (f : Fed) × (slice_get fed i ≡ Some f) × (first_covering (ask_at p) fed ≡ Some f)
  pub elsewhere : (p : Place) → value_at place_cmp p points ≡ None
      → first_covering (ask_at p) fed ≡ first_covering (ask_at p) (those_numbered fed wide)
  pub within : AllByRecursion (λ i. i < length fed) wide
