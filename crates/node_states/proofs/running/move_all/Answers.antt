use Rattle.std.proofs.Common.{List, map, sym, subst}
use Rattle.node_states.proofs.LineLemmas.{moved_numbers}
use Rattle.node_states.specs.Stage.{AreNumbered}
use Rattle.node_states.specs.declared.states.NodeState.{NodeState}
use Rattle.node_states.proofs.running.move_all.Goals as goal

pub running_nodes-requires-clause-numbered : goal.running_nodes-requires-clause-numbered
running_nodes-requires-clause-numbered c =
    subst (λ (nodes : List NodeState). AreNumbered 0 (map (λ node. node.id.0) nodes)) (sym c.move_nodes.ensures) (moved_numbers c.args.moving 0 c.args.nodes.now c.requires.numbered)
