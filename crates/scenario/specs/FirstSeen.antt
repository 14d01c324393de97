use Rattle.std.specs.Prelude.{ℕ, Bool, List}
use Rattle.scenario.specs.declared.first_path.Expected.{Expected}

-- What is kept of the lines of a scenario that were read: whether ranges are all that it is read for,
-- which line comes next, and the names of its transactions in the order in which they came.
pub record Seen : Type 0 where
  pub zones_only : Bool
  pub expected : Expected
  pub names : List (List ℕ)
