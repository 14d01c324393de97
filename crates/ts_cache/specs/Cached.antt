use Rattle.std.specs.Prelude.{◌++◌, List, [], ◌∷◌, Option, Some, None, filter, if◌then◌else◌, length, nat_lt}
use Rattle.mr_base.specs.Timestamps.{later}
use Rattle.mr_base.specs.declared.spans.Span.{Span}
use Rattle.mr_base.specs.declared.timestamps.Ts.{Ts}
use Rattle.ts_cache.specs.Held.{greatest, held_at, ts_of, without}
use Rattle.ts_cache.specs.Meeting.{meets}
use Rattle.ts_cache.specs.Value.{CacheValue}
use Rattle.ts_cache.specs.declared.held.HeldSpan.{HeldSpan}

-- The greatest timestamp at which a key of the span may have been read.
abbrev pub high_of : CacheValue → Span → Ts
high_of c s = greatest c.low (filter (λ h. meets h.span s) c.held)

-- The greatest timestamp at which anything may have been read.
abbrev pub top_of : CacheValue → Ts
top_of c = greatest c.low c.held

-- A span more, as the youngest.
abbrev pub with_youngest : CacheValue → Span → Ts → CacheValue
with_youngest c s ts = record c { held = c.held ++ held_at s ts ∷ [] }

-- The oldest span has gone, and its timestamp counts for each key.
abbrev pub without_oldest : CacheValue → List HeldSpan → CacheValue
without_oldest c [] = c
without_oldest c (oldest ∷ rest) = record c { low = later c.low oldest.ts; held = rest }

-- There is room for a span more.
abbrev pub with_room : CacheValue → CacheValue
with_room c = if nat_lt (length c.held) c.capacity then c else without_oldest c c.held

-- The cache after a span was added that was held at this timestamp before, or wasn't.
abbrev pub added_to : CacheValue → Span → Ts → Option Ts → CacheValue
added_to c s ts (Some had) = with_youngest (record c { held = without s c.held }) s (later had ts)
added_to c s ts None = with_youngest (with_room c) s ts

-- The cache after a span was added.
abbrev pub added : CacheValue → Span → Ts → CacheValue
added c s ts = added_to c s ts (ts_of s c.held)
