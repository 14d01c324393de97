use Rattle.std.specs.Prelude.{◌≡◌, ◌≤◌, ℕ, List, Option, filter, length, not}
use Rattle.std.specs.BTreeMap.{is_at}
use Rattle.std.specs.Cmp.Lexicographic.{slice_cmp}
use Rattle.std.specs.Map.{lookup}
use Rattle.std.specs.Ordering.{nat_cmp}
use Rattle.mr_base.specs.declared.timestamps.Ts.{Ts}
use Rattle.ts_cache.specs.Held.{AreApart, ts_of}
use Rattle.ts_cache.specs.Meeting.{is_point, point_of}
use Rattle.ts_cache.specs.declared.held.HeldSpan.{HeldSpan}

-- How the index stands to the spans held. No public clause cites this.

-- the timestamp of a key in the list of keys
abbrev pub key_ts : List ℕ → List (List ℕ × Ts) → Option Ts
key_ts key points = lookup (is_at (slice_cmp nat_cmp key)) points

-- the points stand by their keys, the other spans in a list of their own
pub record IsIndexed (points : List (List ℕ × Ts)) (wide held : List HeldSpan) : Type 0 where
  pub pointed : (key : List ℕ) → key_ts key points ≡ ts_of (point_of key) held
  pub wides : wide ≡ filter (λ h. not (is_point h.span)) held
  pub apart : AreApart held

-- the same, and no more is held than may be
pub record IsSound (points : List (List ℕ × Ts)) (wide held : List HeldSpan) (capacity : ℕ) : Type 0 where
  pub indexed : IsIndexed points wide held
  pub bounded : length held ≤ capacity
  pub some : 1 ≤ capacity
