use Rattle.std.specs.Prelude.{◌↔◌, ◌&&◌, ℕ, Bool, List, ◌∷◌, [], ◌++◌, IsTrue, nat_eq}
use Rattle.std.specs.Cmp.Lexicographic.{pointwise, slice_cmp}
use Rattle.std.specs.Ordering.{is_lt, nat_cmp}
use Rattle.mr_base.specs.Spans.{InSpan}
use Rattle.mr_base.specs.declared.spans.Span.{Span}

-- One key is below another: byte by byte, the shorter of two that agree first.
abbrev pub key_lt : List ℕ → List ℕ → Bool
key_lt a b = is_lt (slice_cmp nat_cmp a b)

-- Two spans meet: neither is empty, and each begins before the other ends.
abbrev pub meets : Span → Span → Bool
meets a b = key_lt a.lo a.hi && (key_lt a.lo b.hi && (key_lt b.lo a.hi && key_lt b.lo b.hi))

-- That is, a key stands in both.
abbrev pub MeetingIsSharingAKey : Type 0
MeetingIsSharingAKey = (a b : Span) → IsTrue (meets a b) ↔ ((key : List ℕ) × InSpan a key × InSpan b key)

-- The span that holds one key alone.
abbrev pub point_of : List ℕ → Span
point_of key = record { lo = key; hi = key ++ 0 ∷ [] }

-- Whether a span is such a one.
abbrev pub is_point : Span → Bool
is_point s = pointwise nat_eq s.hi (s.lo ++ 0 ∷ [])
