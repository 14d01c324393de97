use Rattle.std.specs.Prelude.{◌≡◌, ℕ, ◌-◌, ◌<◌, List, ◌++◌, drop, length, Contains}
use Rattle.mr_io.specs.Faults.{next_count}

-- A source in memory: the bytes that are left, the numbers of the calls that fail, and how many calls
-- were made and failed.
pub record MemReads : Type 0 where
  pub left : List ℕ
  pub failing : List ℕ
  pub calls : ℕ
  pub faults : ℕ

-- The next call, counted from 1, is one of those that fail.
abbrev pub NextIsListed : List ℕ → ℕ → Type 0
NextIsListed failing calls = Contains failing (next_count calls)

abbrev pub after_failed_read : MemReads → MemReads
after_failed_read s = record s { calls = next_count s.calls; faults = next_count s.faults }

-- The first n bytes were read.
abbrev pub after_read : MemReads → ℕ → MemReads
after_read s n = record s { left = drop n s.left; calls = next_count s.calls }

-- A sink in memory: what was written, how many bytes it still has room for, the numbers of the calls that
-- fail, and how many calls were made and failed.
pub record MemWrites : Type 0 where
  pub written : List ℕ
  pub room : ℕ
  pub failing : List ℕ
  pub calls : ℕ
  pub faults : ℕ

abbrev pub after_failed_write : MemWrites → MemWrites
after_failed_write s = record s { calls = next_count s.calls; faults = next_count s.faults }

-- A piece was taken, which has room.
abbrev pub after_write : MemWrites → List ℕ → MemWrites
after_write s piece = record s { written = s.written ++ piece; room = s.room - length piece; calls = next_count s.calls }

-- A piece meets no room at all.
abbrev pub FindsNoRoom : MemWrites → List ℕ → Type 0
FindsNoRoom s piece = (s.room ≡ 0) × (0 < length piece)
