use Rattle.std.specs.Prelude.{ℕ, List, Option}
use Rattle.mr_base.specs.declared.timestamps.Ts.{Ts}
use Rattle.mvcc_range.specs.declared.key_state.KeptIntent.{KeptIntent}

-- What stands at a key: its versions in the order of their timestamps, and its intent.
pub record KeyValue : Type 0 where
  pub versions : List (Ts × Option (List ℕ))
  pub intent : Option KeptIntent
