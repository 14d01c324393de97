-- What is read of the nodes is what the words say of the history that contracts see.
use Rattle.std.proofs.Common.{◌≡◌, ◌∙◌, ◌-◌, ℕ, Bool, false, get_or, sym, subst, ap}
use Rattle.hlc.specs.Readings.{reading_of}
use Rattle.mr_base.specs.declared.ids.NodeId.{NodeId}
use Rattle.node_states.specs.declared.states.NodeState.{NodeState}
use Rattle.run_words.specs.Clocks.{reading}
use Rattle.run_words.specs.Nodes.{boot, is_running}
use Rattle.run_words.specs.Transactions.{attempts}
use Rattle.cluster_state.proofs.NodeAt.{id_at, reading_at, runs_at, tied_at}
use Rattle.sim_nodes.specs.NodesValue.{IsKept, NodesValue, setup}
use Rattle.cluster_state.specs.Tied.{IsThere, IsTied, past, the_setup}
use Rattle.cluster_state.specs.declared.state.State.{State}

abbrev pub value_of : State → Bool → NodesValue
value_of s ended = record { stage = s.stage; history = past s; ended = ended }

module _ (s : State) (ended : Bool) (v : NodesValue) (view : value_of s ended ≡ v) (kept : IsKept s ended) (going : v.ended ≡ false) where
  pub is_tied : IsTied s
  is_tied = kept.tied (ap (λ (w : NodesValue). w.ended) view ∙ going)

  pub attempts_are : s.attempts ≡ attempts (setup v) v.history
  attempts_are = is_tied.begun_are ∙ ap (λ (w : NodesValue). attempts (setup w) w.history) view

  module _ (n : NodeId) (x : NodeState) (there : IsThere v.stage n) (at : x ≡ get_or s.nodes.items (n.0 - 1) x) where
    is_there : IsThere s.stage n
    is_there = subst (λ (w : NodesValue). IsThere w.stage n) (sym view) there

    pub reading_is : reading_of x.clock.physical x.clock.kept ≡ reading (setup v) v.history n
    reading_is = reading_at s (past s) n x is_tied is_there at ∙ ap (λ (w : NodesValue). reading (setup w) w.history n) view

    pub runs_is : x.runs ≡ is_running (setup v) v.history n
    runs_is = runs_at s (past s) n x is_tied is_there at ∙ ap (λ (w : NodesValue). is_running (setup w) w.history n) view

    pub boot_is : x.boot ≡ boot (setup v) v.history n
    boot_is =
        (tied_at s (past s) n x is_tied is_there at).boot_is
        ∙ ap (boot (the_setup s) (past s)) (id_at s (past s) n x is_tied is_there at)
        ∙ ap (λ (w : NodesValue). boot (setup w) w.history n) view
