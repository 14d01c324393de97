use Rattle.std.specs.Prelude.{length, ◌≡◌}
use Rattle.cluster_state.specs.FirstLeases.{AreLeaseItems}
use Rattle.replica_states.specs.Making.{AreMade}
use Rattle.run_words.specs.History.{History}
use Rattle.sim_nodes.specs.NodesValue.{NodesValue, setup, with_items}

-- What happens behind the `begin` line. (This project's profile.)

-- Leases alone were appended, and each range has begun.
pub record HasBegun (old new : NodesValue) : Type 0 where
  pub items : History
  pub made : new ≡ with_items items old
  pub leases : AreLeaseItems items
  pub ranges : AreMade (setup new) new.history (length new.stage.ranges)
