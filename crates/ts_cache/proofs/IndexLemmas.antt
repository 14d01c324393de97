-- The index of the spans held, as they change.
use Rattle.std.proofs.Common.{◌≡◌, ◌≢◌, ◌⊎◌, ℕ, Bool, true, false, cond, not, List, [], ◌∷◌, ◌++◌, Some, None, filter, remove, inl, inr, refl, subst, sym, ap, ◌∙◌}
use Rattle.std.proofs.lemmas.List.{append-nil}
use Rattle.std.proofs.lemmas.List.Elements.{filter-append}
use Rattle.std.specs.Cmp.Lexicographic.{slice_cmp}
use Rattle.std.specs.Option.{option_map}
use Rattle.std.specs.Ordering.{is_eq, nat_cmp}
use Rattle.mr_base.specs.Timestamps.{later}
use Rattle.mr_base.specs.declared.spans.Span.{Span}
use Rattle.mr_base.specs.declared.timestamps.Ts.{Ts}
use Rattle.ts_cache.proofs.HeldLemmas.{AreApart-last, AreApart-renewed, same_or_not, ts_of-last, ts_of-renewed}
use Rattle.ts_cache.proofs.KeyLemmas.{is_point_of, key_or_not, same_points, wide_apart}
use Rattle.ts_cache.specs.Held.{held_at, same_span, ts_of, without}
use Rattle.ts_cache.specs.Indexed.{IsIndexed, key_ts}
use Rattle.ts_cache.specs.Meeting.{is_point, point_of}
use Rattle.ts_cache.specs.declared.held.HeldSpan.{HeldSpan}

-- a span is wide where it isn't a point
abbrev pub is_wide : HeldSpan → Bool
is_wide h = not (is_point h.span)

-- where a key's timestamp was raised
pub raised : (key q : List ℕ) (had ts : Ts) (old new : List (List ℕ × Ts)) → Some had ≡ key_ts key old →
    key_ts q new ≡ cond (is_eq (slice_cmp nat_cmp key q)) (Some (later had ts)) (key_ts q old) →
    key_ts q new ≡ cond (is_eq (slice_cmp nat_cmp key q)) (option_map (λ t. later t ts) (key_ts q old)) (key_ts q old)
raised key q had ts old new v h = elim (key_or_not key q) as (λ _. key_ts q new ≡ cond (is_eq (slice_cmp nat_cmp key q)) (option_map (λ t. later t ts) (key_ts q old)) (key_ts q old)) [
  | inl k ↦ let here : Some had ≡ key_ts q old = subst (λ (c : List ℕ). Some had ≡ key_ts c old) k.1 v in h ∙ rw (k.0, ← here) refl
  | inr k ↦ h ∙ rw k.0 refl
]

-- where there was none nothing is raised
pub unraised : (key q : List ℕ) (ts : Ts) (old : List (List ℕ × Ts)) → None ≡ key_ts key old →
    key_ts q old ≡ cond (is_eq (slice_cmp nat_cmp key q)) (option_map (λ t. later t ts) (key_ts q old)) (key_ts q old)
unraised key q ts old v = elim (key_or_not key q) as (λ _. key_ts q old ≡ cond (is_eq (slice_cmp nat_cmp key q)) (option_map (λ t. later t ts) (key_ts q old)) (key_ts q old)) [
  | inl k ↦ let here : None ≡ key_ts q old = subst (λ (c : List ℕ). None ≡ key_ts c old) k.1 v in rw (k.0, ← here) refl
  | inr k ↦ rw k.0 refl
]

-- spans apart from one that the test doesn't pass
filter-without : (p : HeldSpan → Bool) (s : Span) (held : List HeldSpan) → ((h : HeldSpan) → h.span ≡ s → p h ≡ false) → filter p (without s held) ≡ filter p held
filter-without p s [] f = refl
filter-without p s (h ∷ hs) f =
    let rest = filter-without p s hs f in
    elim (same_or_not h.span s) as (λ _. filter p (without s (h ∷ hs)) ≡ filter p (h ∷ hs)) [
      | inl e ↦ rw (e.0, f h e.1) rest
      | inr e ↦ rw e.0 (elim (p h) as (λ b. cond b (h ∷ filter p (without s hs)) (filter p (without s hs)) ≡ cond b (h ∷ filter p hs) (filter p hs)) [ true ↦ ap (λ more. h ∷ more) rest | false ↦ rest ])
    ]

-- the order of two tests doesn't matter
filter_comm : (p q : HeldSpan → Bool) (held : List HeldSpan) → filter p (filter q held) ≡ filter q (filter p held)
filter_comm p q [] = refl
filter_comm p q (h ∷ hs) =
    let rest = filter_comm p q hs in
    when (p h) (q h) refl refl rest
  where
    when : (a b : Bool) → p h ≡ a → q h ≡ b → filter p (filter q hs) ≡ filter q (filter p hs) → filter p (filter q (h ∷ hs)) ≡ filter q (filter p (h ∷ hs))
    when true true x y rest = rw (x, y, x) (ap (λ more. h ∷ more) rest)
    when true false x y rest = rw (x, y) rest
    when false true x y rest = rw (x, y, x) rest
    when false false x y rest = rw (x, y) rest

-- a wide span is held among the wide ones as among all
pub ts_of-wide : (s : Span) (held : List HeldSpan) → is_point s ≡ false → ts_of s (filter is_wide held) ≡ ts_of s held
ts_of-wide s [] w = refl
ts_of-wide s (h ∷ hs) w =
    let rest = ts_of-wide s hs w in
    elim (same_or_not h.span s) as (λ _. ts_of s (filter is_wide (h ∷ hs)) ≡ ts_of s (h ∷ hs)) [
      | inl e ↦ let wide : is_point h.span ≡ false = ap is_point e.1 ∙ w in rw wide (rw e.0 refl)
      | inr e ↦ elim (is_point h.span) as (λ b. ts_of s (cond (not b) (h ∷ filter is_wide hs) (filter is_wide hs)) ≡ ts_of s (h ∷ hs)) [ true ↦ rest ∙ rw e.0 refl | false ↦ rw e.0 rest ]
    ]

point_test : (s : Span) (key : List ℕ) → is_point s ≡ true → same_span s (point_of key) ≡ is_eq (slice_cmp nat_cmp s.lo key)
point_test s key p = ap (λ x. same_span x (point_of key)) (is_point_of s p) ∙ same_points s.lo key

not_wide : (s h : Span) → is_point s ≡ true → h ≡ s → not (is_point h) ≡ false
not_wide s h p e = ap not (ap is_point e ∙ p)

-- a point was added once more
pub renewed_point : (s : Span) (had ts : Ts) (old new : List (List ℕ × Ts)) (wide held : List HeldSpan) → is_point s ≡ true → ts_of s held ≡ Some had →
    ((q : List ℕ) → key_ts q new ≡ cond (is_eq (slice_cmp nat_cmp s.lo q)) (option_map (λ t. later t ts) (key_ts q old)) (key_ts q old)) →
    IsIndexed old wide held → IsIndexed new wide (without s held ++ held_at s (later had ts) ∷ [])
renewed_point s had ts old new wide held p is up i = record {
  pointed = λ key. up key ∙ (rw (ts_of-renewed (point_of key) s (later had ts) held, point_test s key p, i.pointed key) (at key (key_or_not s.lo key)));
  wides = i.wides ∙ sym (filter-append is_wide (without s held) (held_at s (later had ts) ∷ []) ∙ rw (filter-without is_wide s held (λ h e. not_wide s h.span p e), p) (append-nil (filter is_wide held)));
  apart = AreApart-renewed s (later had ts) held i.apart;
}
  where
    at : (key : List ℕ) → ((is_eq (slice_cmp nat_cmp s.lo key) ≡ true) × (s.lo ≡ key)) ⊎ ((is_eq (slice_cmp nat_cmp s.lo key) ≡ false) × (s.lo ≢ key)) →
        cond (is_eq (slice_cmp nat_cmp s.lo key)) (option_map (λ t. later t ts) (ts_of (point_of key) held)) (ts_of (point_of key) held) ≡ cond (is_eq (slice_cmp nat_cmp s.lo key)) (Some (later had ts)) (ts_of (point_of key) held)
    at key (inl k) =
        let same : s ≡ point_of key = is_point_of s p ∙ ap point_of k.1 in
        let here : ts_of (point_of key) held ≡ Some had = subst (λ (x : Span). ts_of x held ≡ Some had) same is in
        rw (k.0, here) refl
    at key (inr k) = rw k.0 refl

-- a wide span was added once more
pub renewed_wide : (s : Span) (had ts : Ts) (points : List (List ℕ × Ts)) (wide new held : List HeldSpan) → is_point s ≡ false → ts_of s held ≡ Some had →
    new ≡ without s wide ++ held_at s (later had ts) ∷ [] → IsIndexed points wide held → IsIndexed points new (without s held ++ held_at s (later had ts) ∷ [])
renewed_wide s had ts points wide new held p is by i = record {
  pointed = λ key. i.pointed key ∙ sym (ts_of-renewed (point_of key) s (later had ts) held ∙ rw (wide_apart s key p) refl);
  wides = by ∙ sym (filter-append is_wide (without s held) (held_at s (later had ts) ∷ []) ∙ rw (filter_comm is_wide (λ h. not (same_span h.span s)) held, p, ← i.wides) refl);
  apart = AreApart-renewed s (later had ts) held i.apart;
}

-- a point is held from now on
pub inserted_point : (s : Span) (ts : Ts) (old new : List (List ℕ × Ts)) (wide held : List HeldSpan) → is_point s ≡ true → ts_of s held ≡ None →
    ((q : List ℕ) → key_ts q new ≡ cond (is_eq (slice_cmp nat_cmp s.lo q)) (Some ts) (key_ts q old)) → IsIndexed old wide held → IsIndexed new wide (held ++ held_at s ts ∷ [])
inserted_point s ts old new wide held p none up i = record {
  pointed = λ key. up key ∙ rw (ts_of-last (point_of key) s ts held none, point_test s key p, i.pointed key) refl;
  wides = i.wides ∙ sym (filter-append is_wide held (held_at s ts ∷ []) ∙ rw p (append-nil (filter is_wide held)));
  apart = AreApart-last s ts held i.apart none;
}

-- a wide span is held from now on
pub inserted_wide : (s : Span) (ts : Ts) (points : List (List ℕ × Ts)) (wide new held : List HeldSpan) → is_point s ≡ false → ts_of s held ≡ None →
    new ≡ wide ++ held_at s ts ∷ [] → IsIndexed points wide held → IsIndexed points new (held ++ held_at s ts ∷ [])
inserted_wide s ts points wide new held p none by i = record {
  pointed = λ key. i.pointed key ∙ sym (ts_of-last (point_of key) s ts held none ∙ rw (wide_apart s key p) refl);
  wides = by ∙ sym (filter-append is_wide held (held_at s ts ∷ []) ∙ rw (p, ← i.wides) refl);
  apart = AreApart-last s ts held i.apart none;
}

-- the oldest is a point and isn't held any more
pub removed_point : (oldest : HeldSpan) (old new : List (List ℕ × Ts)) (wide rest : List HeldSpan) → is_point oldest.span ≡ true →
    ((q : List ℕ) → key_ts q new ≡ cond (is_eq (slice_cmp nat_cmp oldest.span.lo q)) None (key_ts q old)) → IsIndexed old wide (oldest ∷ rest) → IsIndexed new wide rest
removed_point oldest old new wide rest p up i = record {
  pointed = λ key. up key ∙ at key (key_or_not oldest.span.lo key);
  wides = i.wides ∙ rw p refl;
  apart = i.apart.1;
}
  where
    at : (key : List ℕ) → ((is_eq (slice_cmp nat_cmp oldest.span.lo key) ≡ true) × (oldest.span.lo ≡ key)) ⊎ ((is_eq (slice_cmp nat_cmp oldest.span.lo key) ≡ false) × (oldest.span.lo ≢ key)) →
        cond (is_eq (slice_cmp nat_cmp oldest.span.lo key)) None (key_ts key old) ≡ ts_of (point_of key) rest
    at key (inl k) =
        let same : oldest.span ≡ point_of key = is_point_of oldest.span p ∙ ap point_of k.1 in
        let none : ts_of (point_of key) rest ≡ None = subst (λ (x : Span). ts_of x rest ≡ None) same i.apart.0 in
        rw (k.0, none) refl
    at key (inr k) =
        let other : same_span oldest.span (point_of key) ≡ false = point_test oldest.span key p ∙ k.0 in
        rw k.0 (i.pointed key ∙ rw other refl)

-- the oldest is wide and isn't held any more
pub removed_wide : (oldest : HeldSpan) (points : List (List ℕ × Ts)) (wide new rest : List HeldSpan) → is_point oldest.span ≡ false → new ≡ remove wide 0 →
    IsIndexed points wide (oldest ∷ rest) → IsIndexed points new rest
removed_wide oldest points wide new rest p by i = record {
  pointed = λ key. i.pointed key ∙ rw (wide_apart oldest.span key p) refl;
  wides = let front : wide ≡ oldest ∷ filter is_wide rest = i.wides ∙ rw p refl in by ∙ ap (λ xs. remove xs 0) front;
  apart = i.apart.1;
}
