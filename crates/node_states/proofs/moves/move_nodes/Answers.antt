use Rattle.std.proofs.Common.{arith}
use Rattle.node_states.specs.Moves.{can_not_move, moved}
use Rattle.node_states.proofs.FrontLemmas.{front_grows, none_behind}
use Rattle.node_states.proofs.moves.move_nodes.Goals as goal

pub move_node-requires : goal.move_node-requires
move_node-requires c =
    none_behind (moved c.args.moving) (can_not_move c.args.moving) c.args.nodes.now c.loop-node.nodes c.loop-node.node-index _ c.requires (omega arith) c.loop-node.invariant

pub loop-node-preserved : goal.loop-node-preserved
loop-node-preserved c =
    front_grows (moved c.args.moving) c.args.nodes.now c.loop-node.nodes c.loop-node.node-index _ c.move_node.new.node (omega arith) c.loop-node.invariant c.move_node.ensures
