use Rattle.std.proofs.Common.{◌≡◌, ◌++◌, ◌∙◌, Bool, false, sym, ap, subst, length}
use Rattle.cluster_state.specs.Making.{IsOnTheWay}
use Rattle.cluster_state.specs.Tied.{past, the_setup}
use Rattle.cluster_state.specs.declared.state.State.{State}
use Rattle.node_states.specs.declared.stage.Stage.{Stage}
use Rattle.replica_states.specs.Making.{AreMade}
use Rattle.run_words.specs.History.{History}
use Rattle.sim_nodes.specs.Begun.{HasBegun}
use Rattle.sim_nodes.specs.NodesValue.{NodesValue, with_items}

-- The ranges have begun, as it is seen from outside.

abbrev pub value_of : Stage → History → Bool → NodesValue
value_of stage h ended = record { stage = stage; history = h; ended = ended }

made_so : (old : NodesValue) (stage : Stage) (h items : History) → stage ≡ old.stage → h ≡ items ++ old.history → old.ended ≡ false
    → value_of stage h false ≡ with_items items old
made_so old stage h items s e up =
    ap (λ (x : Stage). value_of x h false) s ∙ ap (λ (x : History). value_of old.stage x false) e ∙ ap (λ (x : Bool). value_of old.stage (items ++ old.history) x) (sym up)

pub has_begun : (old : NodesValue) (was now : State) → IsOnTheWay was now (length was.stage.ranges) → was.stage ≡ old.stage → past was ≡ old.history → old.ended ≡ false
    → HasBegun old (value_of now.stage (past now) false)
has_begun old was now w s e up =
    record {
      items = w.items;
      made = made_so old now.stage (past now) w.items (w.stage ∙ s) (w.history ∙ ap (λ (h : History). w.items ++ h) e) up;
      leases = w.leases;
      ranges = subst (λ (x : Stage). AreMade (the_setup now) (past now) (length x.ranges)) (sym w.stage) w.making.made;
    }
