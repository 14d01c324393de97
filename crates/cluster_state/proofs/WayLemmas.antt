use Rattle.std.proofs.Common.{◌≡◌, ◌∷◌, ◌+◌, ◌∙◌, ℕ, [], refl, sym, ap, subst, length}
use Rattle.node_states.specs.Placed.{KeepsLaws}
use Rattle.node_states.specs.Stage.{setup_of}
use Rattle.node_states.specs.declared.stage.Stage.{Stage}
use Rattle.replica_states.specs.Making.{IsMaking}
use Rattle.run_words.specs.History.{History}
use Rattle.cluster_state.specs.Making.{HasMadeRange, IsOnTheWay, first_lease}
use Rattle.cluster_state.specs.Tied.{IsTied, IsUnrecorded, past, the_setup}
use Rattle.cluster_state.specs.declared.state.State.{State}

-- The ranges are made one after the other.

pub at_first : (s : State) → IsTied s → length s.ranges.items ≡ 0 → IsMaking (the_setup s) (past s) 0 → IsOnTheWay s s 0
at_first s t none m = record { stage = refl; tied = t; count = none; making = m; items = []; history = refl; leases = tt }

pub one_further : (old s new : State) (place : ℕ) → IsOnTheWay old s place → HasMadeRange s new → IsOnTheWay old new (place + 1)
one_further old s new place w m =
    record {
      stage = m.made.stage ∙ w.stage;
      tied = m.made.tied;
      count = m.count ∙ ap (λ k. k + 1) w.count;
      making = subst (λ (k : ℕ). IsMaking (the_setup new) (past new) (k + 1)) w.count m.making;
      items = first_lease m.range m.lease ∷ w.items;
      history = m.made.history ∙ ap (λ (h : History). first_lease m.range m.lease ∷ h) w.history;
      leases = (tt, w.leases);
    }

pub laws_stay : (s new : State) → IsTied s → IsUnrecorded s new → KeepsLaws (the_setup new) (past new)
laws_stay s new t u =
    subst (λ (x : Stage). KeepsLaws (setup_of x) (past new)) (sym u.stage) (subst (λ (h : History). KeepsLaws (the_setup s) h) (sym u.history) t.laws)
