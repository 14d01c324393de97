-- Spans of keys. Source: this project's profile.
use Rattle.std.specs.Prelude.{ℕ, Bool, not, ◌&&◌, List, [], ◌∷◌, ◌++◌}
use Rattle.std.specs.Ordering.{is_lt}
use Rattle.mr_base.specs.declared.spans.Span.{Span}
use Rattle.row_locality.specs.Pairs.{bytes_cmp}

-- The span of one key is from the key up to the key followed by a zero byte.
abbrev pub point_of : List ℕ → Span
point_of key = record { lo = key; hi = key ++ 0 ∷ [] }

-- The span of all rows of a partition: its primary index.
abbrev pub all_rows : Span
all_rows = record { lo = 0 ∷ []; hi = 1 ∷ [] }

-- The span of all keys of a partition: its indexes are numbered from 0 to 16.
abbrev pub all_keys : Span
all_keys = record { lo = 0 ∷ []; hi = 17 ∷ [] }

-- Whether a key lies in a span: not below its lower end, and below its upper end.
abbrev pub is_in : Span → List ℕ → Bool
is_in span key = not (is_lt (bytes_cmp key span.lo)) && is_lt (bytes_cmp key span.hi)

-- Whether a span lies inside another.
abbrev pub is_inside : Span → Span → Bool
is_inside inner outer = not (is_lt (bytes_cmp inner.lo outer.lo)) && not (is_lt (bytes_cmp outer.hi inner.hi))
