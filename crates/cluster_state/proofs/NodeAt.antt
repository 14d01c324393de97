-- What is kept of a node that is there.
use Rattle.std.proofs.Common.{◌≡◌, ℕ, ◌<◌, ◌+◌, ◌-◌, ◌≤◌, Bool, List, length, get_or, refl, sym, ap, ◌∙◌, subst, arith, Some}
use Rattle.std.proofs.Common.{None}
use Rattle.std.specs.Prelude.{Option}
use Rattle.std.specs.Option.{SomeIff}
use Rattle.mr_base.specs.declared.ids.NodeId.{NodeId}
use Rattle.hlc.specs.Readings.{reading_of}
use Rattle.node_states.proofs.RunningLemmas.{number_at}
use Rattle.node_states.specs.Ties.{IsNodeTied}
use Rattle.node_states.specs.declared.states.NodeState.{NodeState}
use Rattle.run_words.specs.Clocks.{phys, reading, seen}
use Rattle.run_words.specs.History.{History}
use Rattle.run_words.specs.Nodes.{boot, is_running}
use Rattle.cluster_state.specs.Tied.{IsThere, IsTiedTo, the_setup}
use Rattle.cluster_state.specs.declared.state.State.{State}

abbrev node_number : ℕ → NodeId
node_number k = record { 0 = k }

pub is_inside : (s : State) (h : History) (n : NodeId) → IsTiedTo h s → IsThere s.stage n → n.0 - 1 < length s.nodes.items
is_inside s h n t there = omega (arith, t.count, there.0, there.1)

pub id_at : (s : State) (h : History) (n : NodeId) (node : NodeState) → IsTiedTo h s → IsThere s.stage n → node ≡ get_or s.nodes.items (n.0 - 1) node → node.id ≡ n
id_at s h n node t there e =
    let at : (get_or s.nodes.items (n.0 - 1) node).id.0 ≡ 0 + (n.0 - 1) + 1 = number_at 0 s.nodes.items (n.0 - 1) node t.nodes_are.numbered (is_inside s h n t there) in
    let same : (get_or s.nodes.items (n.0 - 1) node).id.0 ≡ n.0 = omega (arith, at, there.0) in
    ap (λ (x : NodeState). x.id) e ∙ ap node_number same

pub tied_at : (s : State) (h : History) (n : NodeId) (node : NodeState) → IsTiedTo h s → IsThere s.stage n → node ≡ get_or s.nodes.items (n.0 - 1) node
    → IsNodeTied (phys (the_setup s) h) (seen (the_setup s) h) (boot (the_setup s) h) (is_running (the_setup s) h) node
tied_at s h n node t there e =
    subst (λ (x : NodeState). IsNodeTied (phys (the_setup s) h) (seen (the_setup s) h) (boot (the_setup s) h) (is_running (the_setup s) h) x) (sym e)
    (t.nodes_are.each (n.0 - 1) node (is_inside s h n t there))

pub reading_at : (s : State) (h : History) (n : NodeId) (node : NodeState) → IsTiedTo h s → IsThere s.stage n → node ≡ get_or s.nodes.items (n.0 - 1) node
    → reading_of node.clock.physical node.clock.kept ≡ reading (the_setup s) h n
reading_at s h n node t there e =
    let tied : IsNodeTied (phys (the_setup s) h) (seen (the_setup s) h) (boot (the_setup s) h) (is_running (the_setup s) h) node = tied_at s h n node t there e in
    let id : node.id ≡ n = id_at s h n node t there e in
    ap (λ (p : ℕ). reading_of p node.clock.kept) tied.physical ∙ ap (reading_of (phys (the_setup s) h node.id)) tied.kept ∙ ap (reading (the_setup s) h) id

pub runs_at : (s : State) (h : History) (n : NodeId) (node : NodeState) → IsTiedTo h s → IsThere s.stage n → node ≡ get_or s.nodes.items (n.0 - 1) node
    → node.runs ≡ is_running (the_setup s) h n
runs_at s h n node t there e = (tied_at s h n node t there e).runs_is ∙ ap (is_running (the_setup s) h) (id_at s h n node t there e)

-- a sum that fits its type
pub given_some : (r : Option ℕ) (P : Type 0) (x v : ℕ) → r ≡ Some x → SomeIff r P v → x ≡ v
given_some None P x v e g = absurd (cc)
given_some (Some y) P x v e g = let same : y ≡ x = cc in sym same ∙ g.1
