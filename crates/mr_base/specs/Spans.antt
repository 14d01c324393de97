use Rattle.std.specs.Prelude.{◌≡◌, ℕ, ◌<◌, ◌⊎◌, ⊤, List, [], ◌∷◌}
use Rattle.mr_base.specs.declared.spans.Span.{Span}

-- The order of keys: byte by byte, the shorter of two that agree first.
abbrev pub IsKeyBelow : List ℕ → List ℕ → Type 0
IsKeyBelow [] [] = ⊥
IsKeyBelow [] (y ∷ ys) = ⊤
IsKeyBelow (x ∷ xs) [] = ⊥
IsKeyBelow (x ∷ xs) (y ∷ ys) = (x < y) ⊎ ((x ≡ y) × IsKeyBelow xs ys)

-- A span holds the keys from its lower end up to and without its upper end.
abbrev pub InSpan : Span → List ℕ → Type 0
InSpan span key = (¬ IsKeyBelow key span.lo) × IsKeyBelow key span.hi

-- A span lies inside another.
abbrev pub IsInside : Span → Span → Type 0
IsInside inner outer = (¬ IsKeyBelow inner.lo outer.lo) × (¬ IsKeyBelow outer.hi inner.hi)

-- A span lies inside one of these.
abbrev pub IsInsideOne : Span → List Span → Type 0
IsInsideOne span [] = ⊥
IsInsideOne span (s ∷ ss) = IsInside span s ⊎ IsInsideOne span ss
