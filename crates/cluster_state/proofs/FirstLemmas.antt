use Rattle.std.proofs.Common.{◌≡◌, ◌≢◌, ℕ, List, [], Some, refl, sym, ap, ◌∙◌, subst, map, length, take, arith}
use Rattle.std.specs.Prelude.{◌≤◌}
use Rattle.std.specs.List.{All}
use Rattle.std.proofs.lemmas.List.{length-map}
use Rattle.mr_base.specs.declared.ids.RangeId.{RangeId}
use Rattle.mr_base.specs.declared.nodes.NodeSet.{NodeSet}
use Rattle.node_states.proofs.FirstLemmas.{first_nodes_tied, first_numbered}
use Rattle.node_states.specs.Moves.{first_node}
use Rattle.node_states.specs.Stage.{AreNumbered, IsStage, setup_of}
use Rattle.node_states.specs.Ties.{IsAmong, NodesTied}
use Rattle.node_states.specs.declared.stage.Stage.{Stage}
use Rattle.node_states.specs.declared.states.NodeState.{NodeState}
use Rattle.replica_states.specs.RangeTies.{RangesTied}
use Rattle.run_words.specs.History.{History}
use Rattle.cluster_state.specs.Tied.{IsTied, IsTiedTo, past, the_setup}
use Rattle.cluster_state.specs.declared.state.State.{State}

-- Where nothing has been done, all is tied.
pub nothing_done : (stage : Stage) (s : State) → IsStage stage → s.stage ≡ stage → s.ledger.history ≡ [] → s.nodes.items ≡ map first_node stage.nodes → All (IsAmong s.running) s.nodes.items
    → s.ranges.items ≡ [] → s.flight.messages ≡ [] → s.attempts ≡ 0 → s.sent ≡ 0 → IsTied s
nothing_done stage s staged same h nodes among ranges mails begun sent =
    subst (λ (g : History). IsTiedTo g s) (sym h)
    (record {
      staged = subst (λ (x : Stage). IsStage x) (sym same) staged;
      laws = tt;
      count = ap length nodes ∙ length-map stage.nodes first_node ∙ sym (ap (λ (x : Stage). length x.nodes) same);
      nodes_are = subst (λ (x : Stage). NodesTied (setup_of x) [] s.nodes.items s.running) (sym same) (first_nodes_tied stage s.nodes.items s.running staged.nodes.numbered nodes among);
      ranges_are = rw ranges (record { each = λ k d l. absurd (omega (arith, l)); plans_are = refl; made = λ j e. absurd (e refl) });
      mails_are = rw mails (record {
        tied = record { each = λ k d l. absurd (omega (arith, l)); numbers = refl; given = λ k d l. absurd (omega (arith, l)) };
        placed = λ k d l. absurd (omega (arith, l));
      });
      begun_are = begun;
      sent_are = sent;
    })

pub numbered_first : (stage : Stage) (nodes : List NodeState) → IsStage stage → nodes ≡ map first_node stage.nodes → AreNumbered 0 (map (λ node. node.id.0) nodes)
numbered_first stage nodes staged e = first_numbered stage nodes staged.nodes.numbered e

pub few_first : (stage : Stage) (nodes : List NodeState) → IsStage stage → nodes ≡ map first_node stage.nodes → length nodes ≤ 64
few_first stage nodes staged e =
    let same : length nodes ≡ length stage.nodes = ap length e ∙ length-map stage.nodes first_node in
    let few : length stage.nodes ≤ 64 = staged.nodes.few in
    grind (arith, same, few)
