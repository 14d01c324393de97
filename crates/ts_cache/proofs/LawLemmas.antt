-- What a cache holds after a span was added, and what is answered then.
use Rattle.std.proofs.Common.{◌≡◌, ◌⊎◌, ◌<◌, ◌≤◌, ℕ, suc, Bool, true, false, cond, not, List, [], ◌∷◌, ◌++◌, length, Option, None, Some, Any, IsTrue, filter, nat_lt, inl, inr, ap, arith, refl, subst, sym, ◌∙◌}
use Rattle.std.proofs.lemmas.Bool.Decides.{nat_tests}
use Rattle.std.proofs.lemmas.List.{length-append}
use Rattle.mr_base.specs.Timestamps.{IsBelow, later}
use Rattle.mr_base.specs.declared.spans.Span.{Span}
use Rattle.mr_base.specs.declared.timestamps.Ts.{Ts}
use Rattle.ts_cache.proofs.HeldLemmas.{AreApart-last, AreApart-renewed, Has-ts_of, same_or_not, ts_of-Has}
use Rattle.ts_cache.proofs.HighLemmas.{Has-filter, from_filter}
use Rattle.ts_cache.proofs.Order.{Has, IsUpTo, greatest_by, greatest_each, greatest_least, greatest_low, later_least, later_left, later_right, later_when, up_to_antisymm, up_to_itself, up_to_not_below, up_to_trans}
use Rattle.ts_cache.proofs.RenewLemmas.{length-without}
use Rattle.ts_cache.specs.Cached.{added, added_to, high_of, top_of, with_youngest, without_oldest}
use Rattle.ts_cache.specs.Held.{AreApart, held_at, same_span, ts_of, without}
use Rattle.ts_cache.specs.Meeting.{meets}
use Rattle.ts_cache.specs.Value.{CacheValue}
use Rattle.ts_cache.specs.declared.held.HeldSpan.{HeldSpan}

in_front : {X : Type 0} (xs ys : List X) (x : X) → Has x xs → Has x (xs ++ ys)
in_front [] ys x h = absurd h
in_front (z ∷ zs) ys x (inl e) = inl e
in_front (z ∷ zs) ys x (inr h) = inr (in_front zs ys x h)

at_last : {X : Type 0} (xs : List X) (x : X) → Has x (xs ++ x ∷ [])
at_last [] x = inl refl
at_last (z ∷ zs) x = inr (at_last zs x)

front_or_last : {X : Type 0} (xs : List X) (x y : X) → Has y (xs ++ x ∷ []) → Has y xs ⊎ (y ≡ x)
front_or_last [] x y (inl e) = inr e
front_or_last [] x y (inr h) = absurd h
front_or_last (z ∷ zs) x y (inl e) = inl (inl e)
front_or_last (z ∷ zs) x y (inr h) = elim (front_or_last zs x y h) as (λ _. Has y (z ∷ zs) ⊎ (y ≡ x)) [ inl r ↦ inl (inr r) | inr e ↦ inr e ]

abbrev cache : Ts → List HeldSpan → ℕ → CacheValue
cache low held capacity = record { low = low; held = held; capacity = capacity }

below_of : (a b : ℕ) → nat_lt a b ≡ true → a < b
below_of a b h = grind (arith, nat_tests)

-- what becomes of what a cache holds, where a span is added
record IsAdded (low : Ts) (held : List HeldSpan) (s : Span) (ts : Ts) (new : CacheValue) : Type 0 where
  pub lower : IsUpTo low new.low
  pub newest : (t : Ts) × Has (held_at s t) new.held × IsUpTo ts t
  pub others : (h : HeldSpan) → AreApart held → Has h held →
      Has h new.held ⊎ (IsUpTo h.ts new.low ⊎ ((h.span ≡ s) × (t : Ts) × Has (held_at s t) new.held × IsUpTo h.ts t))
  pub upper : (r : Ts) → IsUpTo (greatest_by (λ h. h.ts) low held) r → IsUpTo ts r → IsUpTo (greatest_by (λ h. h.ts) new.low new.held) r

-- a list with one more is at most r where both are
with_last : (low : Ts) (xs : List HeldSpan) (x : HeldSpan) (r : Ts) → IsUpTo (greatest_by (λ h. h.ts) low xs) r → IsUpTo x.ts r → IsUpTo (greatest_by (λ h. h.ts) low (xs ++ x ∷ [])) r
with_last low [] x r l h = later_least low x.ts r l h
with_last low (y ∷ ys) x r l h = with_last (later low y.ts) ys x r l h

added_again : (low : Ts) (held : List HeldSpan) (capacity : ℕ) (s : Span) (ts had : Ts) → ts_of s held ≡ Some had →
    IsAdded low held s ts (record { low = low; held = without s held ++ held_at s (later had ts) ∷ []; capacity = capacity })
added_again low held capacity s ts had is = record {
  lower = up_to_itself low;
  newest = (later had ts, at_last (without s held) (held_at s (later had ts)), later_right had ts);
  others = λ h a k. elim (same_or_not h.span s) as (λ _. Has h (without s held ++ held_at s (later had ts) ∷ []) ⊎ (IsUpTo h.ts low ⊎ ((h.span ≡ s) × (t : Ts) × Has (held_at s t) (without s held ++ held_at s (later had ts) ∷ []) × IsUpTo h.ts t))) [
    | inl e ↦
        let here : ts_of s held ≡ Some h.ts = subst (λ (x : Span). ts_of x held ≡ Some h.ts) e.1 (ts_of-Has held h a k) in
        let same : had ≡ h.ts = cc in
        inr (inr (e.1, later had ts, at_last (without s held) (held_at s (later had ts)), subst (λ (t : Ts). IsUpTo t (later had ts)) same (later_left had ts)))
    | inr e ↦ inl (in_front (without s held) (held_at s (later had ts) ∷ []) h (Has-filter (λ x. not (same_span x.span s)) held h k (ap not e.0)))
  ];
  upper = λ r l n.
      with_last low (without s held) (held_at s (later had ts)) r
      (greatest_least (λ h. h.ts) low (without s held) r (up_to_trans low (greatest_by (λ h. h.ts) low held) r (greatest_low (λ h. h.ts) low held) l)
      (λ h k. up_to_trans h.ts (greatest_by (λ x. x.ts) low held) r (greatest_each (λ x. x.ts) low held h (from_filter (λ x. not (same_span x.span s)) held h k).0) l))
      (later_least had ts r (up_to_trans had (greatest_by (λ x. x.ts) low held) r (greatest_each (λ x. x.ts) low held (held_at s had) (Has-ts_of s held had is)) l) n);
}

added_behind : (low : Ts) (held : List HeldSpan) (capacity : ℕ) (s : Span) (ts : Ts) → IsAdded low held s ts (record { low = low; held = held ++ held_at s ts ∷ []; capacity = capacity })
added_behind low held capacity s ts = record {
  lower = up_to_itself low;
  newest = (ts, at_last held (held_at s ts), up_to_itself ts);
  others = λ h a k. inl (in_front held (held_at s ts ∷ []) h k);
  upper = λ r l n. with_last low held (held_at s ts) r l n;
}

added_full : (low : Ts) (oldest : HeldSpan) (rest : List HeldSpan) (capacity : ℕ) (s : Span) (ts : Ts) →
    IsAdded low (oldest ∷ rest) s ts (record { low = later low oldest.ts; held = rest ++ held_at s ts ∷ []; capacity = capacity })
added_full low oldest rest capacity s ts = record {
  lower = later_left low oldest.ts;
  newest = (ts, at_last rest (held_at s ts), up_to_itself ts);
  others = λ h a k. elim k as (λ _. Has h (rest ++ held_at s ts ∷ []) ⊎ (IsUpTo h.ts (later low oldest.ts) ⊎ ((h.span ≡ s) × (t : Ts) × Has (held_at s t) (rest ++ held_at s ts ∷ []) × IsUpTo h.ts t))) [
    | inl e ↦ inr (inl (subst (λ (x : HeldSpan). IsUpTo x.ts (later low oldest.ts)) (sym e) (later_right low oldest.ts)))
    | inr r ↦ inl (in_front rest (held_at s ts ∷ []) h r)
  ];
  upper = λ r l n. with_last (later low oldest.ts) rest (held_at s ts) r l n;
}

added_new : (low : Ts) (held : List HeldSpan) (capacity : ℕ) (s : Span) (ts : Ts) (b : Bool) → IsAdded low held s ts (with_youngest (cond b (cache low held capacity) (without_oldest (cache low held capacity) held)) s ts)
added_new low held capacity s ts true = added_behind low held capacity s ts
added_new low [] capacity s ts false = added_behind low [] capacity s ts
added_new low (oldest ∷ rest) capacity s ts false = added_full low oldest rest capacity s ts

is_added : (low : Ts) (held : List HeldSpan) (capacity : ℕ) (s : Span) (ts : Ts) → IsAdded low held s ts (added (cache low held capacity) s ts)
is_added low held capacity s ts = when (ts_of s held) refl
  where
    when : (o : Option Ts) → ts_of s held ≡ o → IsAdded low held s ts (added_to (cache low held capacity) s ts o)
    when None e = added_new low held capacity s ts (nat_lt (length held) capacity)
    when (Some had) e = added_again low held capacity s ts had e

abbrev meeting : Span → HeldSpan → Bool
meeting q h = meets h.span q

-- each answer goes on
answer_kept : (low : Ts) (held : List HeldSpan) (s q : Span) (ts : Ts) (new : CacheValue) → IsAdded low held s ts new → AreApart held → IsUpTo (greatest_by (λ h. h.ts) low (filter (meeting q) held)) (high_of new q)
answer_kept low held s q ts new i a =
    let from_low : (t : Ts) → IsUpTo t new.low → IsUpTo t (high_of new q) = λ t l. up_to_trans t new.low (high_of new q) l (greatest_low (λ h. h.ts) new.low (filter (meeting q) new.held)) in
    greatest_least (λ h. h.ts) low (filter (meeting q) held) (high_of new q) (from_low low i.lower)
    (λ h k. let f = from_filter (meeting q) held h k in
    elim (i.others h a f.0) as (λ _. IsUpTo h.ts (high_of new q)) [
      | inl still ↦ greatest_each (λ x. x.ts) new.low (filter (meeting q) new.held) h (Has-filter (meeting q) new.held h still f.1)
      | inr (inl l) ↦ from_low h.ts l
      | inr (inr r) ↦
          let there : meets s q ≡ true = subst (λ (x : Span). meets x q ≡ true) r.0 f.1 in
          up_to_trans h.ts r.1 (high_of new q) r.3 (greatest_each (λ x. x.ts) new.low (filter (meeting q) new.held) (held_at s r.1) (Has-filter (meeting q) new.held (held_at s r.1) r.2 there))
    ])

pub lowers_nothing : (c : CacheValue) (s q : Span) (ts : Ts) → AreApart c.held → ¬ IsBelow (high_of (added c s ts) q) (high_of c q)
lowers_nothing c s q ts a = up_to_not_below (high_of c q) (high_of (added c s ts) q) (answer_kept c.low c.held s q ts (added c s ts) (is_added c.low c.held c.capacity s ts) a)

pub covers : (c : CacheValue) (s q : Span) (ts : Ts) → meets s q ≡ true → ¬ IsBelow (high_of (added c s ts) q) ts
covers c s q ts m =
    let new = added c s ts in
    let i = is_added c.low c.held c.capacity s ts in
    up_to_not_below ts (high_of new q)
    (up_to_trans ts i.newest.0 (high_of new q) i.newest.2 (greatest_each (λ x. x.ts) new.low (filter (meeting q) new.held) (held_at s i.newest.0) (Has-filter (meeting q) new.held (held_at s i.newest.0) i.newest.1 m)))

pub raises_the_top : (c : CacheValue) (s : Span) (ts : Ts) → AreApart c.held → top_of (added c s ts) ≡ later (top_of c) ts
raises_the_top c s ts a =
    let new = added c s ts in
    let i = is_added c.low c.held c.capacity s ts in
    let from_low : (t : Ts) → IsUpTo t new.low → IsUpTo t (top_of new) = λ t l. up_to_trans t new.low (top_of new) l (greatest_low (λ h. h.ts) new.low new.held) in
    up_to_antisymm (top_of new) (later (top_of c) ts)
    (i.upper (later (top_of c) ts) (later_left (top_of c) ts) (later_right (top_of c) ts))
    (later_least (top_of c) ts (top_of new)
    (greatest_least (λ h. h.ts) c.low c.held (top_of new) (from_low c.low i.lower)
    (λ h k. elim (i.others h a k) as (λ _. IsUpTo h.ts (top_of new)) [
      | inl still ↦ greatest_each (λ x. x.ts) new.low new.held h still
      | inr (inl l) ↦ from_low h.ts l
      | inr (inr r) ↦ up_to_trans h.ts r.1 (top_of new) r.3 (greatest_each (λ x. x.ts) new.low new.held (held_at s r.1) r.2)
    ]))
    (up_to_trans ts i.newest.0 (top_of new) i.newest.2 (greatest_each (λ x. x.ts) new.low new.held (held_at s i.newest.0) i.newest.1)))

pub top_above_all : (c : CacheValue) (q : Span) → ¬ IsBelow (top_of c) (high_of c q)
top_above_all c q =
    up_to_not_below (high_of c q) (top_of c)
    (greatest_least (λ h. h.ts) c.low (filter (meeting q) c.held) (top_of c) (greatest_low (λ h. h.ts) c.low c.held)
    (λ h k. greatest_each (λ x. x.ts) c.low c.held h (from_filter (meeting q) c.held h k).0))

attained : (low : Ts) (xs : List HeldSpan) → (greatest_by (λ h. h.ts) low xs ≡ low) ⊎ ((x : HeldSpan) × Has x xs × (greatest_by (λ h. h.ts) low xs ≡ x.ts))
attained low [] = inl refl
attained low (y ∷ ys) = elim (attained (later low y.ts) ys) as (λ _. (greatest_by (λ h. h.ts) low (y ∷ ys) ≡ low) ⊎ ((x : HeldSpan) × Has x (y ∷ ys) × (greatest_by (λ h. h.ts) low (y ∷ ys) ≡ x.ts))) [
  | inl e ↦ elim (later_when low y.ts) as (λ _. (greatest_by (λ h. h.ts) low (y ∷ ys) ≡ low) ⊎ ((x : HeldSpan) × Has x (y ∷ ys) × (greatest_by (λ h. h.ts) low (y ∷ ys) ≡ x.ts))) [
    | inl t ↦ inr (y, inl refl, e ∙ t.1)
    | inr t ↦ inl (e ∙ t.1)
  ]
  | inr r ↦ inr (r.0, inr r.1, r.2)
]

any_of : (P : HeldSpan → Type 0) (xs : List HeldSpan) (x : HeldSpan) → Has x xs → P x → Any P xs
any_of P [] x h p = absurd h
any_of P (y ∷ ys) x (inl e) p = (0, x, omega arith, sym e, p)
any_of P (y ∷ ys) x (inr h) p = let rest = any_of P ys x h p in (suc rest.0, rest.1, omega (arith, rest.2), rest.3, rest.4)

pub named : (c : CacheValue) (q : Span) → (high_of c q ≡ c.low) ⊎ Any (λ h. IsTrue (meets h.span q) × (high_of c q ≡ h.ts)) c.held
named c q = elim (attained c.low (filter (meeting q) c.held)) as (λ _. (high_of c q ≡ c.low) ⊎ Any (λ h. IsTrue (meets h.span q) × (high_of c q ≡ h.ts)) c.held) [
  | inl e ↦ inl e
  | inr r ↦ let f = from_filter (meeting q) c.held r.0 r.1 in inr (any_of (λ h. IsTrue (meets h.span q) × (high_of c q ≡ h.ts)) c.held r.0 f.0 (f.1, r.2))
]

apart_new : (low : Ts) (held : List HeldSpan) (capacity : ℕ) (s : Span) (ts : Ts) (b : Bool) → ts_of s held ≡ None → AreApart held →
    AreApart (with_youngest (cond b (cache low held capacity) (without_oldest (cache low held capacity) held)) s ts).held
apart_new low held capacity s ts true n a = AreApart-last s ts held a n
apart_new low [] capacity s ts false n a = AreApart-last s ts [] a n
apart_new low (oldest ∷ rest) capacity s ts false n a = elim (same_or_not oldest.span s) as (λ _. AreApart (rest ++ held_at s ts ∷ [])) [
  | inl e ↦ let here : Some oldest.ts ≡ None = (rw e.0 at n) in cc
  | inr e ↦ AreApart-last s ts rest a.1 (rw e.0 at n)
]

pub keeps_apart : (c : CacheValue) (s : Span) (ts : Ts) → AreApart c.held → AreApart (added c s ts).held
keeps_apart c s ts a = when (ts_of s c.held) refl
  where
    when : (o : Option Ts) → ts_of s c.held ≡ o → AreApart (added_to c s ts o).held
    when None e = apart_new c.low c.held c.capacity s ts (nat_lt (length c.held) c.capacity) e a
    when (Some had) e = AreApart-renewed s (later had ts) c.held a

within_new : (low : Ts) (held : List HeldSpan) (capacity : ℕ) (s : Span) (ts : Ts) (b : Bool) → nat_lt (length held) capacity ≡ b → 1 ≤ capacity → length held ≤ capacity →
    length (with_youngest (cond b (cache low held capacity) (without_oldest (cache low held capacity) held)) s ts).held ≤ capacity
within_new low held capacity s ts true t some l = let below = below_of (length held) capacity t in omega (arith, length-append held (held_at s ts ∷ []), below)
within_new low [] capacity s ts false t some l = omega (arith, some)
within_new low (oldest ∷ rest) capacity s ts false t some l = omega (arith, length-append rest (held_at s ts ∷ []), l)

pub keeps_within : (c : CacheValue) (s : Span) (ts : Ts) → 1 ≤ c.capacity → length c.held ≤ c.capacity → length (added c s ts).held ≤ c.capacity
keeps_within c s ts some l = when (ts_of s c.held) refl
  where
    when : (o : Option Ts) → ts_of s c.held ≡ o → length (added_to c s ts o).held ≤ c.capacity
    when None e = within_new c.low c.held c.capacity s ts (nat_lt (length c.held) c.capacity) refl some l
    when (Some had) e = omega (arith, length-append (without s c.held) (held_at s (later had ts) ∷ []), length-without s c.held had e, l)
