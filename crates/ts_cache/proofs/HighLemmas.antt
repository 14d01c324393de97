-- The greatest timestamp of the spans that meet one, read off the index.
use Rattle.std.proofs.Common.{◌≡◌, ◌&&◌, ℕ, Bool, true, false, cond, not, List, [], ◌∷◌, Some, filter, inl, inr, refl, subst, sym, ap, ◌∙◌}
use Rattle.std.proofs.lemmas.Cmp.{nat_list_cmp_total, tied_itself}
use Rattle.std.proofs.lemmas.Map.Keys.{sorted_head, sorted_tail}
use Rattle.std.proofs.lemmas.Map.Views.{IsInRange-from_range_contains, range_contains-from_IsInRange}
use Rattle.std.specs.BTreeMap.Range.{entries_between, range_contains}
use Rattle.std.specs.Cmp.Lexicographic.{slice_cmp}
use Rattle.std.specs.List.{AllByRecursion}
use Rattle.std.specs.List.Sorted.{IsStrictlySortedBy}
use Rattle.std.specs.Map.{keys_of}
use Rattle.std.specs.Ordering.{is_lt, nat_cmp}
use Rattle.std.specs.declared.cmp.Ordering.TheVariants.{Equal, Less}
use Rattle.std.specs.declared.ops.Bound.TheVariants.{Excluded, Included}
use Rattle.mr_base.specs.Spans.{InSpan}
use Rattle.mr_base.specs.declared.spans.Span.{Span}
use Rattle.mr_base.specs.declared.timestamps.Ts.{Ts}
use Rattle.ts_cache.proofs.HeldLemmas.{Has-ts_of, ts_of-Has}
use Rattle.ts_cache.proofs.IndexLemmas.{is_wide}
use Rattle.ts_cache.proofs.KeyLemmas.{gt_not, in_point, is_point_of, key_or_not, less_is, lt_below, not_below, not_gt, not_lt, point_in}
use Rattle.ts_cache.proofs.Order.{Has, IsUpTo, greatest_by, greatest_each, greatest_least, greatest_low, up_to_antisymm, up_to_trans}
use Rattle.ts_cache.specs.Held.{held_at, ts_of}
use Rattle.ts_cache.specs.Indexed.{IsIndexed, key_ts}
use Rattle.ts_cache.specs.Meeting.{is_point, key_lt, meets, point_of}
use Rattle.ts_cache.specs.declared.held.HeldSpan.{HeldSpan}

pub Has-filter : {X : Type 0} (p : X → Bool) (xs : List X) (x : X) → Has x xs → p x ≡ true → Has x (filter p xs)
Has-filter p [] x h k = absurd h
Has-filter {X} p (y ∷ ys) x (inl e) k = rw (subst (λ (z : X). p z ≡ true) e k) (inl e)
Has-filter p (y ∷ ys) x (inr h) k = elim (p y) as (λ b. Has x (cond b (y ∷ filter p ys) (filter p ys))) [ true ↦ inr (Has-filter p ys x h k) | false ↦ Has-filter p ys x h k ]

pub from_filter : {X : Type 0} (p : X → Bool) (xs : List X) (x : X) → Has x (filter p xs) → Has x xs × (p x ≡ true)
from_filter p [] x h = absurd h
from_filter {X} p (y ∷ ys) x h =
    elim (p y) as (λ b. p y ≡ b → Has x (cond b (y ∷ filter p ys) (filter p ys)) → Has x (y ∷ ys) × (p x ≡ true)) [
      | true ↦ λ t k. elim k as (λ _. Has x (y ∷ ys) × (p x ≡ true)) [
        | inl e ↦ (inl e, subst (λ (z : X). p z ≡ true) (sym e) t)
        | inr r ↦ let rest = from_filter p ys x r in (inr rest.0, rest.1)
      ]
      | false ↦ λ t k. let rest = from_filter p ys x k in (inr rest.0, rest.1)
    ] refl h

all_has : (P : List ℕ → Type 0) (es : List (List ℕ × Ts)) (e : List ℕ × Ts) → AllByRecursion P (keys_of es) → Has e es → P e.0
all_has P [] e a h = absurd h
all_has P (d ∷ ds) e a (inl is) = subst (λ (x : List ℕ × Ts). P x.0) (sym is) a.0
all_has P (d ∷ ds) e a (inr h) = all_has P ds e a.1 h

-- an entry is what its key finds
found : (es : List (List ℕ × Ts)) (e : List ℕ × Ts) → IsStrictlySortedBy (slice_cmp nat_cmp) (keys_of es) → Has e es → key_ts e.0 es ≡ Some e.1
found [] e s h = absurd h
found (d ∷ ds) e s (inl is) = rw is (rw (tied_itself nat_list_cmp_total d.0) refl)
found (d ∷ ds) e s (inr h) =
    let less = all_has (λ q. slice_cmp nat_cmp d.0 q ≡ Less) ds e (sorted_head (slice_cmp nat_cmp) d.0 (keys_of ds) s) h in
    elim (key_or_not e.0 d.0) as (λ _. key_ts e.0 (d ∷ ds) ≡ Some e.1) [
      | inl k ↦ let equal : slice_cmp nat_cmp d.0 e.0 ≡ Equal = subst (λ (c : List ℕ). slice_cmp nat_cmp d.0 c ≡ Equal) (sym k.1) (tied_itself nat_list_cmp_total d.0) in cc
      | inr k ↦ rw k.0 (found ds e (sorted_tail (slice_cmp nat_cmp) d.0 (keys_of ds) s) h)
    ]

-- what a key finds is an entry
held_entry : (es : List (List ℕ × Ts)) (key : List ℕ) (t : Ts) → key_ts key es ≡ Some t → Has (key, t) es
held_entry [] key t h = cc
held_entry (d ∷ ds) key t h = elim (key_or_not key d.0) as (λ _. Has (key, t) (d ∷ ds)) [
  | inl k ↦ let here : Some d.1 ≡ Some t = (rw k.0 at h) in let same : t ≡ d.1 = cc in inl (λ i. (k.1 i, same i))
  | inr k ↦ inr (held_entry ds key t (rw k.0 at h))
]

in_range : (s : Span) (key : List ℕ) → InSpan s key → range_contains (slice_cmp nat_cmp) (Included s.lo) (Excluded s.hi) key ≡ true
in_range s key h = range_contains-from_IsInRange nat_list_cmp_total (Included s.lo) (Excluded s.hi) key (not_gt s.lo key (not_lt key s.lo h.0), less_is key s.hi h.1)

of_range : (s : Span) (key : List ℕ) → range_contains (slice_cmp nat_cmp) (Included s.lo) (Excluded s.hi) key ≡ true → InSpan s key
of_range s key h =
    let r = IsInRange-from_range_contains nat_list_cmp_total (Included s.lo) (Excluded s.hi) key h in
    (not_below key s.lo (gt_not s.lo key r.0), lt_below key s.hi (ap is_lt r.1))

-- the timestamps of the points in a span, and of the wide spans that meet it
pub record Parts (points : List (List ℕ × Ts)) (wide held : List HeldSpan) (low : Ts) (s : Span) : Type 0 where
  pub indexed : IsIndexed points wide held
  pub sorted : IsStrictlySortedBy (slice_cmp nat_cmp) (keys_of points)

abbrev of_points : (points : List (List ℕ × Ts)) (low : Ts) (s : Span) → Ts
of_points points low s = greatest_by (λ e. e.1) low (entries_between (slice_cmp nat_cmp) (Included s.lo) (Excluded s.hi) points)

abbrev of_all : (held : List HeldSpan) (low : Ts) (s : Span) → Ts
of_all held low s = greatest_by (λ h. h.ts) low (filter (λ h. meets h.span s) held)

point_up : (points : List (List ℕ × Ts)) (wide held : List HeldSpan) (low : Ts) (s : Span) → Parts points wide held low s →
    (e : List ℕ × Ts) → Has e (entries_between (slice_cmp nat_cmp) (Included s.lo) (Excluded s.hi) points) → IsUpTo e.1 (of_all held low s)
point_up points wide held low s p e h =
    let f = from_filter (λ d. range_contains (slice_cmp nat_cmp) (Included s.lo) (Excluded s.hi) d.0) points e h in
    let there : ts_of (point_of e.0) held ≡ Some e.1 = sym (p.indexed.pointed e.0) ∙ found points e p.sorted f.0 in
    greatest_each (λ x. x.ts) low (filter (λ x. meets x.span s) held) (held_at (point_of e.0) e.1)
    (Has-filter (λ x. meets x.span s) held (held_at (point_of e.0) e.1) (Has-ts_of (point_of e.0) held e.1 there) (point_in e.0 s (of_range s e.0 f.1)))

wide_up : (points : List (List ℕ × Ts)) (wide held : List HeldSpan) (low : Ts) (s : Span) → Parts points wide held low s →
    (h : HeldSpan) → Has h (filter (λ x. meets x.span s) wide) → IsUpTo h.ts (of_all held low s)
wide_up points wide held low s p h k =
    let f = from_filter (λ x. meets x.span s) wide h k in
    let g = from_filter is_wide held h (subst (λ (xs : List HeldSpan). Has h xs) p.indexed.wides f.0) in
    greatest_each (λ x. x.ts) low (filter (λ x. meets x.span s) held) h (Has-filter (λ x. meets x.span s) held h g.0 f.1)

each_down : (points : List (List ℕ × Ts)) (wide held : List HeldSpan) (low : Ts) (s : Span) → Parts points wide held low s →
    (h : HeldSpan) → Has h (filter (λ x. meets x.span s) held) → IsUpTo h.ts (of_all wide (of_points points low s) s)
each_down points wide held low s p h k =
    let f = from_filter (λ x. meets x.span s) held h k in
    elim (is_point h.span) as (λ b. is_point h.span ≡ b → IsUpTo h.ts (of_all wide (of_points points low s) s)) [
      | true ↦ λ t.
          let same = is_point_of h.span t in
          let here : ts_of (point_of h.span.lo) held ≡ Some h.ts = subst (λ (x : Span). ts_of x held ≡ Some h.ts) same (ts_of-Has held h p.indexed.apart f.0) in
          let entry = held_entry points h.span.lo h.ts (p.indexed.pointed h.span.lo ∙ here) in
          let inside = in_point h.span.lo s (subst (λ (x : Span). meets x s ≡ true) same f.1) in
          up_to_trans h.ts (of_points points low s) (of_all wide (of_points points low s) s)
          (greatest_each (λ e. e.1) low (entries_between (slice_cmp nat_cmp) (Included s.lo) (Excluded s.hi) points) (h.span.lo, h.ts)
          (Has-filter (λ d. range_contains (slice_cmp nat_cmp) (Included s.lo) (Excluded s.hi) d.0) points (h.span.lo, h.ts) entry (in_range s h.span.lo inside)))
          (greatest_low (λ x. x.ts) (of_points points low s) (filter (λ x. meets x.span s) wide))
      | false ↦ λ t.
          let has : Has h wide = subst (λ (xs : List HeldSpan). Has h xs) (sym p.indexed.wides) (Has-filter is_wide held h f.0 (ap not t)) in
          greatest_each (λ x. x.ts) (of_points points low s) (filter (λ x. meets x.span s) wide) h (Has-filter (λ x. meets x.span s) wide h has f.1)
    ] refl

pub high_is : (points : List (List ℕ × Ts)) (wide held : List HeldSpan) (low : Ts) (s : Span) → Parts points wide held low s → of_all wide (of_points points low s) s ≡ of_all held low s
high_is points wide held low s p =
    up_to_antisymm (of_all wide (of_points points low s) s) (of_all held low s)
    (greatest_least (λ x. x.ts) (of_points points low s) (filter (λ x. meets x.span s) wide) (of_all held low s)
    (greatest_least (λ e. e.1) low (entries_between (slice_cmp nat_cmp) (Included s.lo) (Excluded s.hi) points) (of_all held low s) (greatest_low (λ x. x.ts) low (filter (λ x. meets x.span s) held)) (point_up points wide held low s p))
    (wide_up points wide held low s p))
    (greatest_least (λ x. x.ts) low (filter (λ x. meets x.span s) held) (of_all wide (of_points points low s) s)
    (up_to_trans low (of_points points low s) (of_all wide (of_points points low s) s) (greatest_low (λ e. e.1) low (entries_between (slice_cmp nat_cmp) (Included s.lo) (Excluded s.hi) points)) (greatest_low (λ x. x.ts) (of_points points low s) (filter (λ x. meets x.span s) wide)))
    (each_down points wide held low s p))

last_false : (a b c d : Bool) → d ≡ false → a && (b && (c && d)) ≡ false
last_false true true true d h = h
last_false true true false d h = refl
last_false true false c d h = refl
last_false false b c d h = refl

-- nothing meets an empty span
pub none_meets : (s : Span) (held : List HeldSpan) → key_lt s.lo s.hi ≡ false → filter (λ h. meets h.span s) held ≡ []
none_meets s [] e = refl
none_meets s (h ∷ hs) e = rw (last_false (key_lt h.span.lo h.span.hi) (key_lt h.span.lo s.hi) (key_lt s.lo h.span.hi) (key_lt s.lo s.hi) e) (none_meets s hs e)
