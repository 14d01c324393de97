use Rattle.std.proofs.Common.{◌≡◌, ℕ, List, [], ◌∷◌, ◌++◌, inl, inr, refl, arith, ap₂, lt_irrefl}
use Rattle.mr_base.specs.Spans.{IsKeyBelow, IsInside}
use Rattle.mr_base.specs.declared.spans.Span.{Span}

-- no key is below itself
pub not_below_itself : (key : List ℕ) → ¬ IsKeyBelow key key
not_below_itself [] h = h
not_below_itself (x ∷ xs) (inl h) = lt_irrefl x h
not_below_itself (x ∷ xs) (inr (e, h)) = not_below_itself xs h

-- a key is below each longer one that it begins
pub below_longer : (key : List ℕ) (x : ℕ) → IsKeyBelow key (key ++ x ∷ [])
below_longer [] x = tt
below_longer (y ∷ ys) x = inr (refl, below_longer ys x)

-- between a key and the same followed by a zero byte is no other
pub only_itself : (lo key : List ℕ) → ¬ IsKeyBelow key lo → IsKeyBelow key (lo ++ 0 ∷ []) → key ≡ lo
only_itself [] [] n h = refl
only_itself [] (y ∷ []) n (inl h) = absurd (omega (arith, h))
only_itself [] (y ∷ []) n (inr (e, h)) = absurd h
only_itself [] (y ∷ z ∷ zs) n (inl h) = absurd (omega (arith, h))
only_itself [] (y ∷ z ∷ zs) n (inr (e, h)) = absurd h
only_itself (x ∷ xs) [] n h = absurd (n tt)
only_itself (x ∷ xs) (y ∷ ys) n (inl h) = absurd (n (inl h))
only_itself (x ∷ xs) (y ∷ ys) n (inr (e, h)) = ap₂ (λ a b. a ∷ b) e (only_itself xs ys (λ p. n (inr (e, p))) h)

-- a span lies inside itself
pub inside_itself : (span : Span) → IsInside span span
inside_itself span = (not_below_itself span.lo, not_below_itself span.hi)
