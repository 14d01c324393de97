use Rattle.std.specs.Prelude.{ℕ}

-- A reader or writer, and how many of its calls failed.
pub record Counted (Stream : Type 0) : Type 0 where
  pub stream : Stream
  pub faults : ℕ
