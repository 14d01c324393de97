-- The value of a cache after a span was added, and how the index goes with it.
use Rattle.std.proofs.Common.{◌≡◌, ◌<◌, ◌≤◌, ℕ, true, false, List, [], ◌∷◌, ◌++◌, length, None, Some, nat_lt, ap, arith, refl}
use Rattle.std.proofs.lemmas.Bool.Decides.{nat_tests}
use Rattle.std.proofs.lemmas.List.{length-append}
use Rattle.mr_base.specs.Timestamps.{later}
use Rattle.mr_base.specs.declared.spans.Span.{Span}
use Rattle.mr_base.specs.declared.timestamps.Ts.{Ts}
use Rattle.ts_cache.proofs.RenewLemmas.{length-without}
use Rattle.ts_cache.specs.Cached.{added}
use Rattle.ts_cache.specs.Held.{held_at, ts_of, without}
use Rattle.ts_cache.specs.Indexed.{IsIndexed, IsSound}
use Rattle.ts_cache.specs.Value.{CacheValue}
use Rattle.ts_cache.specs.declared.held.HeldSpan.{HeldSpan}

lt_true : (a b : ℕ) → a < b → nat_lt a b ≡ true
lt_true a b h = grind (arith, nat_tests)

lt_false : (a b : ℕ) → b ≤ a → nat_lt a b ≡ false
lt_false a b h = grind (arith, nat_tests)

pub added_again : (v : CacheValue) (s : Span) (ts had : Ts) (new : List HeldSpan) → ts_of s v.held ≡ Some had → new ≡ without s v.held ++ held_at s (later had ts) ∷ [] →
    record v { held = new } ≡ added v s ts
added_again v s ts had new is by = rw (is, by) refl

pub added_with_room : (v : CacheValue) (s : Span) (ts : Ts) (new : List HeldSpan) → ts_of s v.held ≡ None → length v.held < v.capacity → new ≡ v.held ++ held_at s ts ∷ [] →
    record v { held = new } ≡ added v s ts
added_with_room v s ts new none l by = rw (none, lt_true (length v.held) v.capacity l, by) refl

pub added_when_full : (v : CacheValue) (s : Span) (ts low : Ts) (oldest : HeldSpan) (rest new : List HeldSpan) → ts_of s v.held ≡ None → v.capacity ≤ length v.held → v.held ≡ oldest ∷ rest →
    low ≡ later v.low oldest.ts → new ≡ rest ++ held_at s ts ∷ [] → record { low = low; held = new; capacity = v.capacity } ≡ added v s ts
added_when_full v s ts low oldest rest new none l split lower by =
    rw (none, lt_false (length v.held) v.capacity l, split, lower, by) refl

-- the oldest and the others
pub oldest_and_rest : (held : List HeldSpan) → 0 < length held → (oldest : HeldSpan) × (rest : List HeldSpan) × (held ≡ oldest ∷ rest)
oldest_and_rest [] l = absurd (omega (arith, l))
oldest_and_rest (h ∷ hs) l = (h, hs, refl)

pub sound_again : (points : List (List ℕ × Ts)) (wide held new : List HeldSpan) (capacity : ℕ) (s : Span) (ts had : Ts) → ts_of s held ≡ Some had → new ≡ without s held ++ held_at s (later had ts) ∷ [] →
    length held ≤ capacity → 1 ≤ capacity → IsIndexed points wide (without s held ++ held_at s (later had ts) ∷ []) → IsSound points wide new capacity
sound_again points wide held new capacity s ts had is by bound some i = rw by (record {
  indexed = i;
  bounded = omega (arith, length-append (without s held) (held_at s (later had ts) ∷ []), length-without s held had is, bound);
  some = some;
})

pub sound_with_room : (points : List (List ℕ × Ts)) (wide held new : List HeldSpan) (capacity : ℕ) (s : Span) (ts : Ts) → new ≡ held ++ held_at s ts ∷ [] → length held < capacity → 1 ≤ capacity →
    IsIndexed points wide (held ++ held_at s ts ∷ []) → IsSound points wide new capacity
sound_with_room points wide held new capacity s ts by l some i = rw by (record { indexed = i; bounded = omega (arith, length-append held (held_at s ts ∷ []), l); some = some })

pub sound_when_full : (points : List (List ℕ × Ts)) (wide held new : List HeldSpan) (capacity : ℕ) (s : Span) (ts : Ts) (oldest : HeldSpan) (rest : List HeldSpan) → held ≡ oldest ∷ rest →
    new ≡ rest ++ held_at s ts ∷ [] → length held ≤ capacity → 1 ≤ capacity → IsIndexed points wide (rest ++ held_at s ts ∷ []) → IsSound points wide new capacity
sound_when_full points wide held new capacity s ts oldest rest split by bound some i = rw by (record {
  indexed = i;
  bounded = omega (arith, length-append rest (held_at s ts ∷ []), ap length split, bound);
  some = some;
})
