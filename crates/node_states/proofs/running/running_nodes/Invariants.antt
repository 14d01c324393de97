use Rattle.node_states.proofs.RunningLemmas.{IsAmongFirst}
use Rattle.node_states.proofs.running.running_nodes.Given as goal

abbrev pub invariant-loop-node : goal.invariant-loop-node
invariant-loop-node l = IsAmongFirst l.node-index l.fn.nodes l.running
