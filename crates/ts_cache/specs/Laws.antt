use Rattle.std.specs.Prelude.{◌≡◌, ◌≤◌, ◌⊎◌, Any, IsTrue, length}
use Rattle.mr_base.specs.Timestamps.{IsBelow, later}
use Rattle.mr_base.specs.declared.spans.Span.{Span}
use Rattle.mr_base.specs.declared.timestamps.Ts.{Ts}
use Rattle.ts_cache.specs.Cached.{added, high_of, top_of}
use Rattle.ts_cache.specs.Held.{AreApart}
use Rattle.ts_cache.specs.Meeting.{meets}
use Rattle.ts_cache.specs.Value.{CacheValue}

-- Whatever is asked, the answer is no lower after a span was added.
abbrev pub AddingLowersNothing : Type 0
AddingLowersNothing =
    (c : CacheValue) (s q : Span) (ts : Ts) → AreApart c.held → ¬ IsBelow (high_of (added c s ts) q) (high_of c q)

-- A span that meets the added one is answered with its timestamp at least.
abbrev pub AddingCovers : Type 0
AddingCovers =
    (c : CacheValue) (s q : Span) (ts : Ts) → IsTrue (meets s q) → ¬ IsBelow (high_of (added c s ts) q) ts

-- The top is the greatest timestamp that was ever added, and of the cache's beginning.
abbrev pub AddingRaisesTheTop : Type 0
AddingRaisesTheTop =
    (c : CacheValue) (s : Span) (ts : Ts) → AreApart c.held → top_of (added c s ts) ≡ later (top_of c) ts

-- No answer is above the top.
abbrev pub TheTopIsAboveAll : Type 0
TheTopIsAboveAll = (c : CacheValue) (q : Span) → ¬ IsBelow (top_of c) (high_of c q)

-- Each answer is the timestamp that counts for all keys, or that of a span held that meets the one asked for.
abbrev pub EachAnswerIsNamed : Type 0
EachAnswerIsNamed =
    (c : CacheValue) (q : Span)
    → (high_of c q ≡ c.low) ⊎ Any (λ h. IsTrue (meets h.span q) × (high_of c q ≡ h.ts)) c.held

-- No span is held twice after one was added either, and no more than may be held.
abbrev pub AddingKeepsApart : Type 0
AddingKeepsApart = (c : CacheValue) (s : Span) (ts : Ts) → AreApart c.held → AreApart (added c s ts).held

abbrev pub AddingKeepsWithin : Type 0
AddingKeepsWithin =
    (c : CacheValue) (s : Span) (ts : Ts) → 1 ≤ c.capacity
    → length c.held ≤ c.capacity → length (added c s ts).held ≤ c.capacity
