use Rattle.std.specs.Prelude.{ℕ, List}
use Rattle.mr_base.specs.declared.timestamps.Ts.{Ts}
use Rattle.ts_cache.specs.declared.held.HeldSpan.{HeldSpan}

-- A cache as contracts see it: the timestamp that counts for each key, the spans held with theirs, least recently
-- added first, and how many spans it holds at most.
pub record CacheValue : Type 0 where
  pub low : Ts
  pub held : List HeldSpan
  pub capacity : ℕ
