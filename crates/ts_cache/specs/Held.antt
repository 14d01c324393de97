use Rattle.std.specs.Prelude.{◌≡◌, ◌&&◌, Bool, List, [], ◌∷◌, Option, Some, None, ⊤, ◌++◌, MatchOption, false, true, if◌then◌else◌, filter, fold, nat_eq, not}
use Rattle.std.specs.Cmp.Lexicographic.{pointwise}
use Rattle.mr_base.specs.Timestamps.{later}
use Rattle.mr_base.specs.declared.spans.Span.{Span}
use Rattle.mr_base.specs.declared.timestamps.Ts.{Ts}
use Rattle.ts_cache.specs.declared.held.HeldSpan.{HeldSpan}

-- A span with a timestamp.
abbrev pub held_at : Span → Ts → HeldSpan
held_at s ts = record { span = s; ts = ts }

-- Two spans have the same ends.
abbrev pub same_span : Span → Span → Bool
same_span a b = pointwise nat_eq a.lo b.lo && pointwise nat_eq a.hi b.hi

-- The timestamp of a span, if it is held.
abbrev pub ts_of : Span → List HeldSpan → Option Ts
ts_of s [] = None
ts_of s (h ∷ hs) = if same_span h.span s then Some h.ts else ts_of s hs

-- The others that are held.
abbrev pub without : Span → List HeldSpan → List HeldSpan
without s held = filter (λ h. not (same_span h.span s)) held

-- No span is held twice.
abbrev pub AreApart : List HeldSpan → Type 0
AreApart [] = ⊤
AreApart (h ∷ hs) = (ts_of h.span hs ≡ None) × AreApart hs

-- The greatest of a timestamp and those that are held.
abbrev pub greatest : Ts → List HeldSpan → Ts
greatest low held = fold (λ t h. later t h.ts) low held

-- A span was added once more: where it is held, its timestamp is the greater of the two, and it is the youngest.
abbrev pub IsRenewed : Span → Ts → List HeldSpan → List HeldSpan → Bool → Type 0
IsRenewed s ts old new is_held =
    MatchOption (ts_of s old)
    ((is_held ≡ false) × (new ≡ old))
    (λ had. (is_held ≡ true) × (new ≡ without s old ++ held_at s (later had ts) ∷ []))
