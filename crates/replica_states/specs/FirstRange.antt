use Rattle.std.specs.Prelude.{List, [], false, slice_index_or, ℕ, ◌-◌, ◌∷◌}
use Rattle.hlc.specs.Readings.{nothing, reading_of}
use Rattle.mr_base.specs.declared.ids.NodeId.{NodeId}
use Rattle.mr_base.specs.declared.timestamps.Reading.{Reading}
use Rattle.node_states.specs.declared.states.NodeState.{NodeState}

-- What a range finds at its nodes where it is made.

abbrev pub no_node : NodeState
no_node = record { id = record { 0 = 0 }; clock = record { physical = 0; kept = nothing }; boot = 0; runs = false }

-- The node of a number, which is that of its place.
abbrev pub node_in : List NodeState → NodeId → NodeState
node_in nodes n = slice_index_or nodes (n.0 - 1) no_node

abbrev pub boot_in : List NodeState → NodeId → ℕ
boot_in nodes n = (node_in nodes n).boot

abbrev pub reading_in : List NodeState → NodeId → Reading
reading_in nodes n = reading_of (node_in nodes n).clock.physical (node_in nodes n).clock.kept

-- What the first voter's clock shows.
abbrev pub first_wall : List NodeState → List NodeId → ℕ
first_wall nodes [] = 0
first_wall nodes (n ∷ more) = (reading_in nodes n).wall
