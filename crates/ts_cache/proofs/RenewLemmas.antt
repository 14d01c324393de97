-- Where a span is held, and the list without it.
use Rattle.std.proofs.Common.{◌≡◌, ℕ, zero, suc, ◌+◌, ◌<◌, ◌≤◌, Bool, true, false, cond, not, List, [], ◌∷◌, length, ◌++◌, Option, Some, None, get_or, nat_lt, position, remove, inl, inr, arith, refl, subst, sym, ap, ◌∙◌}
use Rattle.std.proofs.lemmas.Bool.Decides.{nat_tests}
use Rattle.std.proofs.lemmas.List.Quantifiers.{position-Some}
use Rattle.std.specs.List.{position_or_len}
use Rattle.mr_base.specs.Timestamps.{later}
use Rattle.mr_base.specs.declared.spans.Span.{Span}
use Rattle.mr_base.specs.declared.timestamps.Ts.{Ts}
use Rattle.ts_cache.proofs.HeldLemmas.{same_or_not, same_span_is, without_none}
use Rattle.ts_cache.specs.Held.{AreApart, IsRenewed, held_at, same_span, ts_of, without}
use Rattle.ts_cache.specs.declared.held.HeldSpan.{HeldSpan}

none_before : (s : Span) (held : List HeldSpan) → length held ≤ position_or_len (λ h. same_span h.span s) held → ts_of s held ≡ None
none_before s [] l = refl
none_before s (h ∷ hs) l = elim (same_or_not h.span s) as (λ _. ts_of s (h ∷ hs) ≡ None) [
  | inl e ↦ absurd (omega (arith, rw e.0 at l))
  | inr e ↦ rw e.0 (none_before s hs (omega (arith, rw e.0 at l)))
]

-- no place is the span's
pub none_held : (s : Span) (held : List HeldSpan) → position (λ h. same_span h.span s) held ≡ None → ts_of s held ≡ None
none_held s held n = when (nat_lt (position_or_len (λ h. same_span h.span s) held) (length held)) refl
  where
    when : (t : Bool) → nat_lt (position_or_len (λ h. same_span h.span s) held) (length held) ≡ t → ts_of s held ≡ None
    when true h = let some : Some (position_or_len (λ h. same_span h.span s) held) ≡ None = (rw h at n) in cc
    when false h = none_before s held (grind (arith, nat_tests))

-- what a place holds, where none before it is the span's
pub record IsHeldAt (s : Span) (held : List HeldSpan) (at : ℕ) (here : HeldSpan) : Type 0 where
  pub span : here.span ≡ s
  pub ts : ts_of s held ≡ Some here.ts
  pub rest : remove held at ≡ without s held

pub held_there : (s : Span) (held : List HeldSpan) (at : ℕ) (here : HeldSpan) → AreApart held → at < length held → here ≡ get_or held at here → same_span here.span s ≡ true →
    ((k : ℕ) (d : HeldSpan) → k < at → same_span (get_or held k d).span s ≡ false) → IsHeldAt s held at here
held_there s [] at here a l is same before = absurd (omega (arith, l))
held_there s (h ∷ hs) zero here a l is same before =
    let first : same_span h.span s ≡ true = subst (λ (x : HeldSpan). same_span x.span s ≡ true) is same in
    let none : ts_of s hs ≡ None = subst (λ (x : Span). ts_of x hs ≡ None) (same_span_is h.span s first) a.0 in
    record {
      span = same_span_is here.span s same;
      ts = rw first (ap (λ (x : HeldSpan). Some x.ts) (sym is));
      rest = rw first (sym (without_none s hs none));
    }
held_there s (h ∷ hs) (suc at) here a l is same before =
    let first : same_span h.span s ≡ false = before 0 h (omega arith) in
    let there = held_there s hs at here a.1 (omega (arith, l)) is same (λ k d m. before (suc k) d (omega (arith, m))) in
    record {
      span = there.span;
      ts = rw first there.ts;
      rest = rw first (ap (λ more. h ∷ more) there.rest);
    }

-- the place that a search finds
pub found_there : (s : Span) (held : List HeldSpan) (at : ℕ) (here : HeldSpan) → AreApart held → here ≡ get_or held at here → Some at ≡ position (λ h. same_span h.span s) held → IsHeldAt s held at here
found_there s held at here a is p =
    let found = position-Some (λ h. same_span h.span s) held at here (sym p) in
    held_there s held at here a found.0 is (subst (λ (x : HeldSpan). same_span x.span s ≡ true) (sym is) found.1)
    (λ k d l. (position-Some (λ h. same_span h.span s) held at d (sym p)).2 k l)

pub found_within : (s : Span) (held : List HeldSpan) (at : ℕ) (d : HeldSpan) → Some at ≡ position (λ h. same_span h.span s) held → at < length held
found_within s held at d p = (position-Some (λ h. same_span h.span s) held at d (sym p)).0

-- what a renewal tells, by its answer
pub was_held : (s : Span) (ts : Ts) (old new : List HeldSpan) (r : Bool) → IsRenewed s ts old new r → r ≡ true → (had : Ts) × (ts_of s old ≡ Some had) × (new ≡ without s old ++ held_at s (later had ts) ∷ [])
was_held s ts old new r m h = when (ts_of s old) refl
  where
    when : (o : Option Ts) → ts_of s old ≡ o → (had : Ts) × (ts_of s old ≡ Some had) × (new ≡ without s old ++ held_at s (later had ts) ∷ [])
    when None e = let both = (rw e at m) in let no : true ≡ false = sym h ∙ both.0 in cc
    when (Some had) e = (had, e, (rw e at m).1)

pub was_not_held : (s : Span) (ts : Ts) (old new : List HeldSpan) (r : Bool) → IsRenewed s ts old new r → r ≡ false → (ts_of s old ≡ None) × (new ≡ old)
was_not_held s ts old new r m h = when (ts_of s old) refl
  where
    when : (o : Option Ts) → ts_of s old ≡ o → (ts_of s old ≡ None) × (new ≡ old)
    when None e = (e, (rw e at m).1)
    when (Some had) e = let both = (rw e at m) in let no : false ≡ true = sym h ∙ both.0 in cc

pub renewed_there : (s : Span) (ts had : Ts) (old new : List HeldSpan) (r : Bool) → ts_of s old ≡ Some had → IsRenewed s ts old new r → new ≡ without s old ++ held_at s (later had ts) ∷ []
renewed_there s ts had old new r e m = (rw e at m).1

shorter : (s : Span) (held : List HeldSpan) → length (without s held) ≤ length held
shorter s [] = omega arith
shorter s (h ∷ hs) = elim (same_span h.span s) as (λ b. length (cond (not b) (h ∷ without s hs) (without s hs)) ≤ length (h ∷ hs)) [ true ↦ omega (arith, shorter s hs) | false ↦ omega (arith, shorter s hs) ]

-- without a span that is held there is one fewer
pub length-without : (s : Span) (held : List HeldSpan) (had : Ts) → ts_of s held ≡ Some had → length (without s held) + 1 ≤ length held
length-without s [] had is = cc
length-without s (h ∷ hs) had is = elim (same_or_not h.span s) as (λ _. length (without s (h ∷ hs)) + 1 ≤ length (h ∷ hs)) [
  | inl e ↦ rw e.0 (omega (arith, shorter s hs))
  | inr e ↦ rw e.0 (omega (arith, length-without s hs had (rw e.0 at is)))
]
