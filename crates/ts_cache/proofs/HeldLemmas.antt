-- The spans held, as a function from a span to its timestamp.
use Rattle.std.proofs.Common.{◌≡◌, ◌≢◌, ◌⊎◌, ◌&&◌, Bool, true, false, cond, not, nat_eq, List, [], ◌∷◌, ◌++◌, Option, Some, None, filter, inl, inr, refl, subst, sym, ap, ap₂, ◌∙◌}
use Rattle.std.specs.Cmp.Lexicographic.{bytes_decides, pointwise}
use Rattle.mr_base.specs.declared.spans.Span.{Span}
use Rattle.mr_base.specs.declared.timestamps.Ts.{Ts}
use Rattle.ts_cache.proofs.Order.{Has}
use Rattle.ts_cache.specs.Held.{AreApart, held_at, same_span, ts_of, without}
use Rattle.ts_cache.specs.declared.held.HeldSpan.{HeldSpan}

both : (a b : Bool) → a && b ≡ true → (a ≡ true) × (b ≡ true)
both true b h = (refl, h)
both false b h = cc

same_ends : (a b : Span) → a.lo ≡ b.lo → a.hi ≡ b.hi → a ≡ b
same_ends a b l h = λ i. record { lo = l i; hi = h i }

pub same_span_is : (a b : Span) → same_span a b ≡ true → a ≡ b
same_span_is a b h =
    let parts = both (pointwise nat_eq a.lo b.lo) (pointwise nat_eq a.hi b.hi) h in
    same_ends a b ((bytes_decides a.lo b.lo).0 parts.0) ((bytes_decides a.hi b.hi).0 parts.1)

pub same_span_itself : (a : Span) → same_span a a ≡ true
same_span_itself a = ap₂ (λ x y. x && y) ((bytes_decides a.lo a.lo).1 refl) ((bytes_decides a.hi a.hi).1 refl)

-- what is so of equal spans and of others
pub same_or_not : (a b : Span) → ((same_span a b ≡ true) × (a ≡ b)) ⊎ ((same_span a b ≡ false) × (a ≢ b))
same_or_not a b = when (same_span a b) refl
  where
    when : (t : Bool) → same_span a b ≡ t → ((same_span a b ≡ true) × (a ≡ b)) ⊎ ((same_span a b ≡ false) × (a ≢ b))
    when true h = inl (h, same_span_is a b h)
    when false h = inr (h, λ e. let itself : same_span a b ≡ true = subst (λ (c : Span). same_span a c ≡ true) e (same_span_itself a) in cc)

pub same_span_comm : (a b : Span) → same_span a b ≡ same_span b a
same_span_comm a b = elim (same_or_not a b) as (λ _. same_span a b ≡ same_span b a) [
  | inl h ↦ h.0 ∙ sym (subst (λ (c : Span). same_span c a ≡ true) h.1 (same_span_itself a))
  | inr h ↦ elim (same_or_not b a) as (λ _. same_span a b ≡ same_span b a) [ inl k ↦ absurd (h.1 (sym k.1)) | inr k ↦ h.0 ∙ sym k.0 ]
]

-- a span that is held, with its timestamp
pub Has-ts_of : (s : Span) (held : List HeldSpan) (t : Ts) → ts_of s held ≡ Some t → Has (held_at s t) held
Has-ts_of s [] t h = cc
Has-ts_of s (h ∷ hs) t is = elim (same_or_not h.span s) as (λ _. Has (held_at s t) (h ∷ hs)) [
  | inl e ↦ let here : Some h.ts ≡ Some t = (rw e.0 at is) in let same : h.ts ≡ t = cc in inl (ap₂ held_at (sym e.1) (sym same))
  | inr e ↦ inr (Has-ts_of s hs t (rw e.0 at is))
]

-- no other entry of a span is held
pub ts_of-Has : (held : List HeldSpan) (h : HeldSpan) → AreApart held → Has h held → ts_of h.span held ≡ Some h.ts
ts_of-Has [] h a is = absurd is
ts_of-Has (g ∷ gs) h a (inl e) = rw (ap (λ (x : HeldSpan). x.span) e) (rw (same_span_itself g.span) (ap (λ (x : HeldSpan). Some x.ts) (sym e)))
ts_of-Has (g ∷ gs) h a (inr is) =
    let there = ts_of-Has gs h a.1 is in
    elim (same_or_not g.span h.span) as (λ _. ts_of h.span (g ∷ gs) ≡ Some h.ts) [
      | inl e ↦ let none : ts_of h.span gs ≡ None = subst (λ (c : Span). ts_of c gs ≡ None) e.1 a.0 in cc
      | inr e ↦ rw e.0 there
    ]

-- without a span the others are held as before
pub ts_of-without : (q s : Span) (held : List HeldSpan) → ts_of q (without s held) ≡ cond (same_span s q) None (ts_of q held)
ts_of-without q s [] = elim (same_span s q) as (λ b. ◌≡◌ {A = Option Ts} None (cond b None None)) [ true ↦ refl | false ↦ refl ]
ts_of-without q s (h ∷ hs) = elim (same_or_not h.span s) as (λ _. ts_of q (without s (h ∷ hs)) ≡ cond (same_span s q) None (ts_of q (h ∷ hs))) [
  | inl e ↦ rw (e.0, ts_of-without q s hs, e.1) (elim (same_span s q) as (λ b. cond b None (ts_of q hs) ≡ cond b None (cond b (Some h.ts) (ts_of q hs))) [ true ↦ refl | false ↦ refl ])
  | inr e ↦ rw e.0 (elim (same_or_not h.span q) as (λ _. cond (same_span h.span q) (Some h.ts) (ts_of q (without s hs)) ≡ cond (same_span s q) None (cond (same_span h.span q) (Some h.ts) (ts_of q hs))) [
    | inl k ↦ let other : same_span s q ≡ false = subst (λ (c : Span). same_span s c ≡ false) k.1 (same_span_comm s h.span ∙ e.0) in rw (k.0, other) refl
    | inr k ↦ rw k.0 (ts_of-without q s hs)
  ])
]

-- a span more at the end
pub ts_of-last : (q s : Span) (t : Ts) (held : List HeldSpan) → ts_of s held ≡ None → ts_of q (held ++ held_at s t ∷ []) ≡ cond (same_span s q) (Some t) (ts_of q held)
ts_of-last q s t [] n = refl
ts_of-last q s t (h ∷ hs) n = elim (same_or_not h.span s) as (λ _. ts_of q ((h ∷ hs) ++ held_at s t ∷ []) ≡ cond (same_span s q) (Some t) (ts_of q (h ∷ hs))) [
  | inl e ↦ let here : Some h.ts ≡ None = (rw e.0 at n) in cc
  | inr e ↦ let rest = ts_of-last q s t hs (rw e.0 at n) in
      elim (same_or_not h.span q) as (λ _. cond (same_span h.span q) (Some h.ts) (ts_of q (hs ++ held_at s t ∷ [])) ≡ cond (same_span s q) (Some t) (cond (same_span h.span q) (Some h.ts) (ts_of q hs))) [
        | inl k ↦ let other : same_span s q ≡ false = subst (λ (c : Span). same_span s c ≡ false) k.1 (same_span_comm s h.span ∙ e.0) in rw (k.0, other) refl
        | inr k ↦ rw k.0 rest
      ]
]

pub AreApart-last : (s : Span) (t : Ts) (held : List HeldSpan) → AreApart held → ts_of s held ≡ None → AreApart (held ++ held_at s t ∷ [])
AreApart-last s t [] a n = (refl, tt)
AreApart-last s t (h ∷ hs) a n = elim (same_or_not h.span s) as (λ _. AreApart ((h ∷ hs) ++ held_at s t ∷ [])) [
  | inl e ↦ let here : Some h.ts ≡ None = (rw e.0 at n) in cc
  | inr e ↦ let none : ts_of s hs ≡ None = (rw e.0 at n) in
      (ts_of-last h.span s t hs none ∙ rw (same_span_comm s h.span ∙ e.0) a.0, AreApart-last s t hs a.1 none)
]

-- what isn't among all isn't among some
ts_of-filter_none : (p : HeldSpan → Bool) (q : Span) (held : List HeldSpan) → ts_of q held ≡ None → ts_of q (filter p held) ≡ None
ts_of-filter_none p q [] n = refl
ts_of-filter_none p q (h ∷ hs) n = elim (same_or_not h.span q) as (λ _. ts_of q (filter p (h ∷ hs)) ≡ None) [
  | inl e ↦ let here : Some h.ts ≡ None = (rw e.0 at n) in cc
  | inr e ↦ let none = ts_of-filter_none p q hs (rw e.0 at n) in elim (p h) as (λ b. ts_of q (cond b (h ∷ filter p hs) (filter p hs)) ≡ None) [ true ↦ rw e.0 none | false ↦ none ]
]

pub AreApart-filter : (p : HeldSpan → Bool) (held : List HeldSpan) → AreApart held → AreApart (filter p held)
AreApart-filter p [] a = tt
AreApart-filter p (h ∷ hs) a = elim (p h) as (λ b. AreApart (cond b (h ∷ filter p hs) (filter p hs))) [ true ↦ (ts_of-filter_none p h.span hs a.0, AreApart-filter p hs a.1) | false ↦ AreApart-filter p hs a.1 ]

pub without_none : (s : Span) (held : List HeldSpan) → ts_of s held ≡ None → without s held ≡ held
without_none s [] n = refl
without_none s (h ∷ hs) n = elim (same_or_not h.span s) as (λ _. without s (h ∷ hs) ≡ h ∷ hs) [
  | inl e ↦ let here : Some h.ts ≡ None = (rw e.0 at n) in cc
  | inr e ↦ rw e.0 (ap (λ rest. h ∷ rest) (without_none s hs (rw e.0 at n)))
]

-- a span that isn't held any more
pub gone : (s : Span) (held : List HeldSpan) → ts_of s (without s held) ≡ None
gone s held = ts_of-without s s held ∙ rw (same_span_itself s) refl

-- the spans after one was added again
pub ts_of-renewed : (q s : Span) (t : Ts) (held : List HeldSpan) → ts_of q (without s held ++ held_at s t ∷ []) ≡ cond (same_span s q) (Some t) (ts_of q held)
ts_of-renewed q s t held =
    ts_of-last q s t (without s held) (gone s held) ∙ rw (ts_of-without q s held)
    (elim (same_span s q) as (λ b. cond b (Some t) (cond b None (ts_of q held)) ≡ cond b (Some t) (ts_of q held)) [ true ↦ refl | false ↦ refl ])

pub AreApart-renewed : (s : Span) (t : Ts) (held : List HeldSpan) → AreApart held → AreApart (without s held ++ held_at s t ∷ [])
AreApart-renewed s t held a = AreApart-last s t (without s held) (AreApart-filter (λ h. not (same_span h.span s)) held a) (gone s held)
