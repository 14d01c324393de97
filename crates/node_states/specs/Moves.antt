use Rattle.std.specs.Prelude.{Bool, None, Option, Some, false, if◌then◌else◌, nat_le, true, ℕ, ◌+◌, ◌==◌, ◌^◌}
use Rattle.hlc.specs.Readings.{nothing}
use Rattle.journal.specs.declared.events.Event.TheVariants as events
use Rattle.journal.specs.declared.events.Event.{Event}
use Rattle.mr_base.specs.declared.timestamps.Reading.{Reading}
use Rattle.node_states.specs.declared.stage.NodePlan.{NodePlan}
use Rattle.node_states.specs.declared.moves.Move.TheVariants as moves
use Rattle.node_states.specs.declared.moves.Move.{Move}
use Rattle.node_states.specs.declared.states.NodeState.{NodeState}
use Rattle.run_words.specs.Clocks.{seen_with}

-- A node of a stage runs, at its first boot, and its clock has seen nothing.
abbrev pub first_node : NodePlan → NodeState
first_node plan = record { id = plan.info.id; clock = record { physical = plan.clock; kept = nothing }; boot = 1; runs = true }

-- What lines do to nodes: ticks move physical clocks, a node that starts is at its next boot, and its clock keeps
-- nothing. (This project's profile.)

abbrev pub move_of : Event → Move
move_of (events.Tick None ms) = moves.TickAll ms
move_of (events.Tick (Some n) ms) = moves.Tick n ms
move_of (events.Stop n) = moves.Stop n
move_of (events.Start n) = moves.Start n
move_of _ = moves.Nothing

abbrev pub ticked : ℕ → NodeState → NodeState
ticked ms node = record node { clock = record node.clock { physical = node.clock.physical + ms } }

abbrev pub stopped : NodeState → NodeState
stopped node = record node { runs = false }

abbrev pub started : NodeState → NodeState
started node = record node { clock = record node.clock { kept = nothing }; boot = node.boot + 1; runs = true }

-- A clock keeps another reading.
abbrev pub with_kept : Reading → NodeState → NodeState
with_kept r node = record node { clock = record node.clock { kept = r } }

-- The node that takes a message takes in the clock that came with it.
abbrev pub heard : Option Reading → NodeState → NodeState
heard clock node = record node { clock = record node.clock { kept = seen_with clock node.clock.kept } }

abbrev pub moved : Move → NodeState → NodeState
moved moves.Nothing node = node
moved (moves.TickAll ms) node = ticked ms node
moved (moves.Tick n ms) node = if n.0 == node.id.0 then ticked ms node else node
moved (moves.Stop n) node = if n.0 == node.id.0 then stopped node else node
moved (moves.Start n) node = if n.0 == node.id.0 then started node else node

-- A physical clock would come to 2^53 milliseconds, or boots to 2^32.
abbrev pub can_not_move : Move → NodeState → Bool
can_not_move (moves.TickAll ms) node = nat_le (2 ^ 53) (node.clock.physical + ms)
can_not_move (moves.Tick n ms) node = nat_le (2 ^ 53) (node.clock.physical + ms)
can_not_move (moves.Start n) node = nat_le (2 ^ 32) (node.boot + 1)
can_not_move _ node = false
