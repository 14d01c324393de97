use Rattle.std.specs.Prelude.{ℕ}
use Rattle.mr_base.specs.declared.timestamps.Reading.{Reading}

-- A clock as contracts see it: its physical part, and the greatest reading that it gave or took in since its
-- node started.
pub record ClockValue : Type 0 where
  pub physical : ℕ
  pub kept : Reading
