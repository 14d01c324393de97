-- The order of keys, and the spans that hold them.
use Rattle.std.proofs.Common.{◌≡◌, ◌≢◌, ◌⊎◌, ◌&&◌, ℕ, ◌<◌, Bool, true, false, List, [], ◌∷◌, ◌++◌, nat_eq, inl, inr, arith, refl, subst, sym, ap, ◌∙◌}
use Rattle.std.proofs.lemmas.Bool.Decides.{nat_tests}
use Rattle.std.proofs.lemmas.Cmp.{by_ranked, nat_list_cmp_total, ranked, tied_itself}
use Rattle.std.proofs.lemmas.List.{same_from_push}
use Rattle.std.proofs.lemmas.Map.Lookups.{exact_bytes}
use Rattle.std.specs.Cmp.Lexicographic.{bytes_decides, pointwise, slice_cmp}
use Rattle.std.specs.Ordering.{is_eq, is_gt, is_lt, nat_cmp, ordering_reverse}
use Rattle.std.specs.declared.cmp.Ordering.{Ordering}
use Rattle.std.specs.declared.cmp.Ordering.TheVariants.{Less, Equal, Greater}
use Rattle.mr_base.proofs.SpanLemmas.{below_longer, not_below_itself, only_itself}
use Rattle.mr_base.specs.Spans.{InSpan, IsKeyBelow}
use Rattle.mr_base.specs.declared.spans.Span.{Span}
use Rattle.ts_cache.proofs.HeldLemmas.{same_or_not, same_span_itself}
use Rattle.ts_cache.specs.Held.{same_span}
use Rattle.ts_cache.specs.Meeting.{is_point, key_lt, meets, point_of}

-- two keys are the same or not
pub key_or_not : (a b : List ℕ) → ((is_eq (slice_cmp nat_cmp a b) ≡ true) × (a ≡ b)) ⊎ ((is_eq (slice_cmp nat_cmp a b) ≡ false) × (a ≢ b))
key_or_not a b = when (slice_cmp nat_cmp a b) refl
  where
    itself : a ≡ b → slice_cmp nat_cmp a b ≡ Equal
    itself e = subst (λ (c : List ℕ). slice_cmp nat_cmp a c ≡ Equal) e (tied_itself nat_list_cmp_total a)

    when : (r : Ordering) → slice_cmp nat_cmp a b ≡ r → ((is_eq (slice_cmp nat_cmp a b) ≡ true) × (a ≡ b)) ⊎ ((is_eq (slice_cmp nat_cmp a b) ≡ false) × (a ≢ b))
    when Less h = inr (ap is_eq h, λ e. let i = itself e in cc)
    when Equal h = inl (ap is_eq h, exact_bytes a b h)
    when Greater h = inr (ap is_eq h, λ e. let i = itself e in cc)

lt_is_less : (r : Ordering) → is_lt r ≡ true → r ≡ Less
lt_is_less Less h = refl
lt_is_less Equal h = cc
lt_is_less Greater h = cc

less_when : (x y : ℕ) → x < y → nat_cmp x y ≡ Less
less_when x y h = grind (arith, nat_tests)

equal_when : (x y : ℕ) → x ≡ y → nat_cmp x y ≡ Equal
equal_when x y h = grind (arith, nat_tests)

pub below_lt : (a b : List ℕ) → IsKeyBelow a b → key_lt a b ≡ true
below_lt [] [] h = absurd h
below_lt [] (y ∷ ys) h = refl
below_lt (x ∷ xs) [] h = absurd h
below_lt (x ∷ xs) (y ∷ ys) (inl l) = rw (less_when x y l) refl
below_lt (x ∷ xs) (y ∷ ys) (inr (e, h)) = rw (equal_when x y e) (below_lt xs ys h)

pub lt_below : (a b : List ℕ) → key_lt a b ≡ true → IsKeyBelow a b
lt_below [] [] h = cc
lt_below [] (y ∷ ys) h = tt
lt_below (x ∷ xs) [] h = cc
lt_below (x ∷ xs) (y ∷ ys) h =
    by_ranked (x < y) (x ≡ y) (y < x) (nat_cmp x y) (ranked x y (nat_cmp x y) refl)
    (λ e l. inl l)
    (λ e l. inr (l, lt_below xs ys (rw e at h)))
    (λ e l. let no : false ≡ true = (rw e at h) in cc)

pub not_lt : (a b : List ℕ) → ¬ IsKeyBelow a b → key_lt a b ≡ false
not_lt a b n = when (key_lt a b) refl
  where
    when : (t : Bool) → key_lt a b ≡ t → key_lt a b ≡ false
    when true h = absurd (n (lt_below a b h))
    when false h = h

pub not_below : (a b : List ℕ) → key_lt a b ≡ false → ¬ IsKeyBelow a b
not_below a b h k = let yes = below_lt a b k in cc

-- a key that isn't above another is below what that is below
pub le_lt : (a b c : List ℕ) → key_lt b a ≡ false → key_lt b c ≡ true → key_lt a c ≡ true
le_lt a b c h k = when (slice_cmp nat_cmp b a) refl
  where
    when : (r : Ordering) → slice_cmp nat_cmp b a ≡ r → key_lt a c ≡ true
    when Less e = let yes : key_lt b a ≡ true = ap is_lt e in cc
    when Equal e = ap is_lt (sym (nat_list_cmp_total.congr b a c e)) ∙ k
    when Greater e =
        let less : slice_cmp nat_cmp a b ≡ Less = nat_list_cmp_total.antisymm a b ∙ rw e refl in
        ap is_lt (nat_list_cmp_total.trans a b c less (lt_is_less (slice_cmp nat_cmp b c) k))

pub not_gt : (a b : List ℕ) → key_lt b a ≡ false → is_gt (slice_cmp nat_cmp a b) ≡ false
not_gt a b h = when (slice_cmp nat_cmp b a) refl
  where
    when : (r : Ordering) → slice_cmp nat_cmp b a ≡ r → is_gt (slice_cmp nat_cmp a b) ≡ false
    when Less e = let yes : key_lt b a ≡ true = ap is_lt e in cc
    when Equal e = ap is_gt (nat_list_cmp_total.antisymm a b ∙ ap ordering_reverse e)
    when Greater e = ap is_gt (nat_list_cmp_total.antisymm a b ∙ ap ordering_reverse e)

pub gt_not : (a b : List ℕ) → is_gt (slice_cmp nat_cmp a b) ≡ false → key_lt b a ≡ false
gt_not a b h = when (slice_cmp nat_cmp a b) refl
  where
    when : (r : Ordering) → slice_cmp nat_cmp a b ≡ r → key_lt b a ≡ false
    when Less e = ap is_lt (nat_list_cmp_total.antisymm b a ∙ ap ordering_reverse e)
    when Equal e = ap is_lt (nat_list_cmp_total.antisymm b a ∙ ap ordering_reverse e)
    when Greater e = let yes : is_gt (slice_cmp nat_cmp a b) ≡ true = ap is_gt e in cc

pub less_is : (a b : List ℕ) → IsKeyBelow a b → slice_cmp nat_cmp a b ≡ Less
less_is a b h = lt_is_less (slice_cmp nat_cmp a b) (below_lt a b h)

both : (a b : Bool) → a && b ≡ true → (a ≡ true) × (b ≡ true)
both true b h = (refl, h)
both false b h = cc

-- spans that meet share a key
pub share_key : (a b : Span) → meets a b ≡ true → (key : List ℕ) × InSpan a key × InSpan b key
share_key a b h =
    let p = both (key_lt a.lo a.hi) (key_lt a.lo b.hi && (key_lt b.lo a.hi && key_lt b.lo b.hi)) h in
    let q = both (key_lt a.lo b.hi) (key_lt b.lo a.hi && key_lt b.lo b.hi) p.1 in
    let r = both (key_lt b.lo a.hi) (key_lt b.lo b.hi) q.1 in
    when p.0 q.0 r.0 r.1 (key_lt a.lo b.lo) refl
  where
    when : key_lt a.lo a.hi ≡ true → key_lt a.lo b.hi ≡ true → key_lt b.lo a.hi ≡ true → key_lt b.lo b.hi ≡ true → (t : Bool) → key_lt a.lo b.lo ≡ t → (key : List ℕ) × InSpan a key × InSpan b key
    when aa ab ba bb true t =
        (b.lo, ((λ k. not_below_itself a.lo (lt_below a.lo a.lo (le_lt_lt t (below_lt b.lo a.lo k)))), lt_below b.lo a.hi ba), (not_below_itself b.lo, lt_below b.lo b.hi bb))
      where
        le_lt_lt : key_lt a.lo b.lo ≡ true → key_lt b.lo a.lo ≡ true → key_lt a.lo a.lo ≡ true
        le_lt_lt x y = ap is_lt (nat_list_cmp_total.trans a.lo b.lo a.lo (lt_is_less (slice_cmp nat_cmp a.lo b.lo) x) (lt_is_less (slice_cmp nat_cmp b.lo a.lo) y))
    when aa ab ba bb false t = (a.lo, (not_below_itself a.lo, lt_below a.lo a.hi aa), (not_below a.lo b.lo t, lt_below a.lo b.hi ab))

pub meet_at : (a b : Span) (key : List ℕ) → InSpan a key → InSpan b key → meets a b ≡ true
meet_at a b key h k =
    let from_a : (hi : List ℕ) → IsKeyBelow key hi → key_lt a.lo hi ≡ true = λ hi l. le_lt a.lo key hi (not_lt key a.lo h.0) (below_lt key hi l) in
    let from_b : (hi : List ℕ) → IsKeyBelow key hi → key_lt b.lo hi ≡ true = λ hi l. le_lt b.lo key hi (not_lt key b.lo k.0) (below_lt key hi l) in
    rw (from_a a.hi h.1, from_a b.hi k.1, from_b a.hi h.1, from_b b.hi k.1) refl

-- a point meets the spans that hold its key
pub point_in : (key : List ℕ) (s : Span) → InSpan s key → meets (point_of key) s ≡ true
point_in key s h = meet_at (point_of key) s key (not_below_itself key, below_longer key 0) h

pub in_point : (key : List ℕ) (s : Span) → meets (point_of key) s ≡ true → InSpan s key
in_point key s h =
    let there = share_key (point_of key) s h in
    subst (λ (k : List ℕ). InSpan s k) (only_itself key there.0 there.1.0 there.1.1) there.2

-- a point is the point of its lower end
point_parts : (s : Span) → s.hi ≡ s.lo ++ 0 ∷ [] → s ≡ point_of s.lo
point_parts s h = λ i. record { lo = s.lo; hi = h i }

pub is_point_of : (s : Span) → is_point s ≡ true → s ≡ point_of s.lo
is_point_of s h = point_parts s ((bytes_decides s.hi (s.lo ++ 0 ∷ [])).0 h)

pub point_is_point : (key : List ℕ) → is_point (point_of key) ≡ true
point_is_point key = (bytes_decides (key ++ 0 ∷ []) (key ++ 0 ∷ [])).1 refl

-- two points are the same where their keys are
pub same_points : (a b : List ℕ) → same_span (point_of a) (point_of b) ≡ is_eq (slice_cmp nat_cmp a b)
same_points a b = elim (key_or_not a b) as (λ _. same_span (point_of a) (point_of b) ≡ is_eq (slice_cmp nat_cmp a b)) [
  | inl k ↦ subst (λ (c : List ℕ). same_span (point_of a) (point_of c) ≡ true) k.1 (same_span_itself (point_of a)) ∙ sym k.0
  | inr k ↦ elim (same_or_not (point_of a) (point_of b)) as (λ _. same_span (point_of a) (point_of b) ≡ is_eq (slice_cmp nat_cmp a b)) [
    | inl e ↦ absurd (k.1 (ap (λ (s : Span). s.lo) e.1))
    | inr e ↦ e.0 ∙ sym k.0
  ]
]

-- a span that isn't a point is no point's
pub wide_apart : (s : Span) (key : List ℕ) → is_point s ≡ false → same_span s (point_of key) ≡ false
wide_apart s key w = elim (same_or_not s (point_of key)) as (λ _. same_span s (point_of key) ≡ false) [
  | inl e ↦ let yes : is_point s ≡ true = subst (λ (c : Span). is_point c ≡ true) (sym e.1) (point_is_point key) in cc
  | inr e ↦ e.0
]

-- a key followed by a zero byte, and the same with another end
pub last_zero : (front lo : List ℕ) → pointwise nat_eq (front ++ 0 ∷ []) (lo ++ 0 ∷ []) ≡ pointwise nat_eq front lo
last_zero front lo = when (pointwise nat_eq front lo) refl
  where
    when : (t : Bool) → pointwise nat_eq front lo ≡ t → pointwise nat_eq (front ++ 0 ∷ []) (lo ++ 0 ∷ []) ≡ pointwise nat_eq front lo
    when true h = (bytes_decides (front ++ 0 ∷ []) (lo ++ 0 ∷ [])).1 (ap (λ k. k ++ 0 ∷ []) ((bytes_decides front lo).0 h)) ∙ sym h
    when false h = other (pointwise nat_eq (front ++ 0 ∷ []) (lo ++ 0 ∷ [])) refl ∙ sym h
      where
        other : (t : Bool) → pointwise nat_eq (front ++ 0 ∷ []) (lo ++ 0 ∷ []) ≡ t → pointwise nat_eq (front ++ 0 ∷ []) (lo ++ 0 ∷ []) ≡ false
        other true k = let yes : pointwise nat_eq front lo ≡ true = (bytes_decides front lo).1 (same_from_push front lo 0 0 ((bytes_decides (front ++ 0 ∷ []) (lo ++ 0 ∷ [])).0 k)).0 in cc
        other false k = k

pub last_other : (front lo : List ℕ) (last : ℕ) → last ≢ 0 → pointwise nat_eq (front ++ last ∷ []) (lo ++ 0 ∷ []) ≡ false
last_other front lo last n = when (pointwise nat_eq (front ++ last ∷ []) (lo ++ 0 ∷ [])) refl
  where
    when : (t : Bool) → pointwise nat_eq (front ++ last ∷ []) (lo ++ 0 ∷ []) ≡ t → pointwise nat_eq (front ++ last ∷ []) (lo ++ 0 ∷ []) ≡ false
    when true h = absurd (n (same_from_push front lo last 0 ((bytes_decides (front ++ last ∷ []) (lo ++ 0 ∷ [])).0 h)).1)
    when false h = h
