-- What spans of keys hold.
use Rattle.std.proofs.Common.{◌≡◌, ℕ, ◌<◌, true, List, [], ◌∷◌, refl, sym, subst, inl, inr, arith, eqb}
use Rattle.std.specs.Prelude.{flat_map, ◌⊎◌}
use Rattle.std.specs.Bool.{Decides}
use Rattle.std.specs.Cmp.{nat_cmp_is}
use Rattle.std.specs.Ordering.{nat_cmp, ordering_then, is_lt}
use Rattle.std.specs.declared.cmp.Ordering.{Ordering}
use Rattle.std.specs.declared.cmp.Ordering.TheVariants.{Less, Equal, Greater}
use Rattle.std.proofs.lemmas.Bool.{cases_order}
use Rattle.std.proofs.lemmas.Bool.Decides.{nat_tests, Decides-not, Decides-and}
use Rattle.mr_base.specs.declared.spans.Span.{Span}
use Rattle.mr_base.specs.Spans.{IsKeyBelow, InSpan, IsInside}
use Rattle.mr_base.proofs.SpanLemmas.{not_below_itself, below_longer, only_itself}
use Rattle.row_locality.specs.Keys.{key_part}
use Rattle.row_locality.specs.KeyLaws.{PointHoldsOneKey, AllRowsAreThePrimaryKeys}
use Rattle.row_locality.specs.Pairs.{bytes_cmp}
use Rattle.row_locality.specs.Spans.{point_of, all_rows, is_in, is_inside}

-- ---- the order of bytes is the order of keys

from_head : (x y : ℕ) (o : Ordering) (P : Type 0) → x ≡ y → Decides (is_lt o) P → (x < y) ⊎ ((x ≡ y) × P) → is_lt o ≡ true
from_head x y o P e d (inl h) = absurd (omega arith)
from_head x y o P e d (inr (f, h)) = d.1 h

from_greater : (x y : ℕ) (P : Type 0) → y < x → (x < y) ⊎ ((x ≡ y) × P) → ⊥
from_greater x y P h (inl k) = omega arith
from_greater x y P h (inr (e, k)) = omega arith

head_below : (x y : ℕ) (o : Ordering) (P : Type 0) → Decides (is_lt o) P → Decides (is_lt (ordering_then (nat_cmp x y) o)) ((x < y) ⊎ ((x ≡ y) × P))
head_below x y o P d =
    elim (cases_order x y) [
      | inl e ↦ rw (sym (nat_cmp_is x y Equal e)) (λ t. inr (e, d.0 t), λ h. from_head x y o P e d h)
      | inr (inl h) ↦ rw (sym (nat_cmp_is x y Less h)) (λ t. inl h, λ k. refl)
      | inr (inr h) ↦ rw (sym (nat_cmp_is x y Greater h)) (λ t. absurd cc, λ k. absurd (from_greater x y P h k))
    ]

pub is_below : (x y : List ℕ) → Decides (is_lt (bytes_cmp x y)) (IsKeyBelow x y)
is_below [] [] = (λ e. absurd cc, λ h. absurd h)
is_below [] (y ∷ ys) = (λ e. tt, λ h. refl)
is_below (x ∷ xs) [] = (λ e. absurd cc, λ h. absurd h)
is_below (x ∷ xs) (y ∷ ys) = head_below x y (bytes_cmp xs ys) (IsKeyBelow xs ys) (is_below xs ys)

pub is_in_decides : (span : Span) (key : List ℕ) → Decides (is_in span key) (InSpan span key)
is_in_decides span key = Decides-and _ _ (Decides-not _ (is_below key span.lo)) (is_below key span.hi)

pub is_inside_decides : (inner outer : Span) → Decides (is_inside inner outer) (IsInside inner outer)
is_inside_decides inner outer = Decides-and _ _ (Decides-not _ (is_below inner.lo outer.lo)) (Decides-not _ (is_below outer.hi inner.hi))

-- ---- points

pub point_holds : PointHoldsOneKey
point_holds key other =
    let d = is_in_decides (point_of key) other in (
      λ e. let h : InSpan (point_of key) other = d.0 e in only_itself key other h.0 h.1,
      λ e. subst (λ k. is_in (point_of key) k ≡ true) (sym e) ((is_in_decides (point_of key) key).1 (not_below_itself key, below_longer key 0)),
    )

-- ---- the span of all rows

-- a key lies among the primary keys where its first byte is 0
pub in_all_rows : (b : ℕ) (bytes : List ℕ) → is_in all_rows (b ∷ bytes) ≡ eqb b 0
in_all_rows b [] = grind (arith, nat_tests)
in_all_rows b (x ∷ xs) = grind (arith, nat_tests)

pub all_rows_holds : AllRowsAreThePrimaryKeys
all_rows_holds number values = in_all_rows number (flat_map key_part values)
