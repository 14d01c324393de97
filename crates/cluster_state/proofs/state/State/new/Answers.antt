use Rattle.std.proofs.Common.{◌≡◌, ◌∙◌, List, ap, map, refl, sym, subst}
use Rattle.node_states.specs.Moves.{first_node}
use Rattle.node_states.specs.Ties.{IsAmong}
use Rattle.node_states.specs.declared.states.NodeState.{NodeState}
use Rattle.std.specs.List.{All}
use Rattle.msg_flight.specs.Value.{FlightValue}
use Rattle.cluster_state.proofs.FirstLemmas.{few_first, nothing_done, numbered_first}
use Rattle.cluster_state.proofs.state.State.new.Goals as goal

pub running_nodes-running-requires-clause-numbered : goal.running_nodes-running-requires-clause-numbered
running_nodes-running-requires-clause-numbered c =
    numbered_first c.args.stage c.as_slice-3.result.now c.requires (c.as_slice-3.ensures.value ∙ c.in_ok-nodes.ensures ∙ ap (map first_node) c.as_slice.ensures)

pub running_nodes-running-requires-clause-few : goal.running_nodes-running-requires-clause-few
running_nodes-running-requires-clause-few c =
    few_first c.args.stage c.as_slice-3.result.now c.requires (c.as_slice-3.ensures.value ∙ c.in_ok-nodes.ensures ∙ ap (map first_node) c.as_slice.ensures)

pub returns-clause-tied : goal.returns-clause-tied
returns-clause-tied c =
    nothing_done c.args.stage _ c.requires refl c.new-3.ensures (c.in_ok-nodes.ensures ∙ ap (map first_node) c.as_slice.ensures)
    (subst (λ (ns : List NodeState). All (IsAmong c.running_nodes-running.result) ns) c.as_slice-3.ensures.value c.running_nodes-running.ensures) c.new.ensures.items
    (ap (λ (f : FlightValue). f.messages) c.new-2.ensures) refl refl
