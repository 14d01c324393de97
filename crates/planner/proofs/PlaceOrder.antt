-- The order of places, and points that cover points.
use Rattle.std.proofs.Common.{◌≡◌, ℕ, Bool, true, false, List, [], ◌∷◌, ◌++◌, refl, sym, ap, ◌∙◌, subst}
use Rattle.std.specs.Prelude.{◌&&◌, not}
use Rattle.std.specs.Cmp.{IsTotalOrder, on_total, then_total, nat_cmp_total, tied_itself, Equal-is}
use Rattle.std.specs.Cmp.Lexicographic.{nat_list_cmp_total}
use Rattle.std.specs.Ordering.{eq_by_cmp, is_lt, nat_cmp, ordering_reverse}
use Rattle.std.specs.declared.cmp.Ordering.{Ordering}
use Rattle.std.specs.declared.cmp.Ordering.TheVariants.{Less, Equal, Greater}
use Rattle.std.proofs.lemmas.Bool.{and_parts, eq-eqb, eqb-true}
use Rattle.std.proofs.lemmas.Map.Lookups.{exact_bytes, exact_unsigned}
use Rattle.mr_base.proofs.SpanLemmas.{below_longer, inside_itself, only_itself}
use Rattle.mr_base.specs.Scripts.{fed_with}
use Rattle.mr_base.specs.Spans.{IsKeyBelow, IsInside}
use Rattle.mr_base.specs.declared.ids.RangeId.{RangeId}
use Rattle.mr_base.specs.declared.spans.Ask.{Ask}
use Rattle.mr_base.specs.declared.spans.Pair.{Pair}
use Rattle.mr_base.specs.declared.spans.Span.{Span}
use Rattle.row_locality.specs.Pairs.{bytes_cmp}
use Rattle.row_locality.specs.Spans.{is_in, is_inside, point_of}
use Rattle.row_locality.proofs.DatumOrder.{both_equal}
use Rattle.row_locality.proofs.PointLemmas.{is_below, is_inside_decides}
use Rattle.sql_eval.specs.OwnWrites.{Place, place_cmp}
use Rattle.sql_eval.specs.Reads.{covers}
use Rattle.planner.specs.Numbered.{ask_at}

-- ---- places

pub place_total : IsTotalOrder place_cmp
place_total = then_total (on_total (λ (p : Place). p.0.0) nat_cmp_total) (on_total (λ (p : Place). p.1) nat_list_cmp_total)

same_number : (a b : RangeId) → a.0 ≡ b.0 → a ≡ b
same_number a b e = let number : ℕ → RangeId = λ n. record { 0 = n } in ap number e

pub same_place : (p q : Place) → eq_by_cmp place_cmp p q ≡ true → p ≡ q
same_place p q e =
    let both = both_equal (nat_cmp p.0.0 q.0.0) (bytes_cmp p.1 q.1) ((Equal-is (place_cmp p q)).0 e) in
    let range : p.0 ≡ q.0 = same_number p.0 q.0 (exact_unsigned p.0.0 q.0.0 both.0) in
    let key : p.1 ≡ q.1 = exact_bytes p.1 q.1 both.1 in
    λ i. (range i, key i)

pub place_itself : (p : Place) → eq_by_cmp place_cmp p p ≡ true
place_itself p = (Equal-is (place_cmp p p)).1 (tied_itself place_total p)

-- ---- keys

less_of : (o : Ordering) → is_lt o ≡ true → o ≡ Less
less_of Less e = refl
less_of Equal e = absurd (cc)
less_of Greater e = absurd (cc)

below_less : (x y : List ℕ) → IsKeyBelow x y → bytes_cmp x y ≡ Less
below_less x y h = less_of (bytes_cmp x y) ((is_below x y).1 h)

less_below : (x y : List ℕ) → bytes_cmp x y ≡ Less → IsKeyBelow x y
less_below x y e = (is_below x y).0 (ap is_lt e)

-- of three keys: where the first isn't below the second, what is above the first is above the second
reaches : (x y z : List ℕ) → ¬ IsKeyBelow x y → IsKeyBelow x z → IsKeyBelow y z
reaches x y z n h = when (bytes_cmp y x) refl
  where
    when : (o : Ordering) → bytes_cmp y x ≡ o → IsKeyBelow y z
    when Less e = less_below y z (nat_list_cmp_total.trans y x z e (below_less x z h))
    when Equal e = subst (λ (k : List ℕ). IsKeyBelow k z) (sym (exact_bytes y x e)) h
    when Greater e = absurd (n (less_below x y (nat_list_cmp_total.antisymm x y ∙ ap ordering_reverse e)))

is_so : (x y : List ℕ) → ¬ ¬ IsKeyBelow x y → IsKeyBelow x y
is_so x y n = when (is_lt (bytes_cmp x y)) refl
  where
    when : (b : Bool) → is_lt (bytes_cmp x y) ≡ b → IsKeyBelow x y
    when true e = (is_below x y).0 e
    when false e = absurd (n (λ h. let yes : is_lt (bytes_cmp x y) ≡ true = (is_below x y).1 h in cc))

-- no key lies in a span whose lower end isn't below its upper end
pub outside : (s : Span) (key : List ℕ) → is_lt (bytes_cmp s.lo s.hi) ≡ false → is_in s key ≡ false
outside s key e = when (is_in s key) refl
  where
    when : (t : Bool) → is_in s key ≡ t → is_in s key ≡ false
    when true h =
        let parts = and_parts _ _ h in
        let above : ¬ IsKeyBelow key s.lo = λ k. let yes : is_lt (bytes_cmp key s.lo) ≡ true = (is_below key s.lo).1 k in let no : not (is_lt (bytes_cmp key s.lo)) ≡ true = parts.0 in absurd (cc) in
        let yes : is_lt (bytes_cmp s.lo s.hi) ≡ true = (is_below s.lo s.hi).1 (reaches key s.lo s.hi above ((is_below key s.hi).0 parts.1)) in absurd (cc)
    when false h = h

-- a point inside a point is the same
pub same_point : (key other : List ℕ) → is_inside (point_of key) (point_of other) ≡ true → key ≡ other
same_point key other e =
    let h : IsInside (point_of key) (point_of other) = (is_inside_decides (point_of key) (point_of other)).0 e in
    only_itself other key h.0
    (is_so key (other ++ 0 ∷ []) (λ n. h.1 (reaches key (other ++ 0 ∷ []) (key ++ 0 ∷ []) n (below_longer key 0))))

-- ---- asks

both_true : (a b : Bool) → a ≡ true → b ≡ true → (a && b) ≡ true
both_true true b e f = f
both_true false b e f = absurd (cc)

-- what was fed covers its own ask
pub covers_itself : (ask : Ask) (rows : List Pair) → covers ask (fed_with ask rows) ≡ true
covers_itself ask rows = both_true _ _ (eq-eqb ask.range.0 ask.range.0 refl) ((is_inside_decides ask.span ask.span).1 (inside_itself ask.span))

-- a point that covers the point of a place is of the same place
pub covered_place : (p q : Place) (rows : List Pair) → covers (ask_at p) (fed_with (ask_at q) rows) ≡ true → p ≡ q
covered_place p q rows e =
    let parts = and_parts _ _ e in
    let range : p.0 ≡ q.0 = same_number p.0 q.0 (eqb-true p.0.0 q.0.0 parts.0) in
    let key : p.1 ≡ q.1 = same_point p.1 q.1 parts.1 in
    λ i. (range i, key i)
