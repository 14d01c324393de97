use Rattle.std.proofs.Common.{◌≡◌, ◌≢◌, ℕ, zero, suc, Bool, false, List, [], ◌∷◌, Option, Some, refl, sym, ap, ◌∙◌, subst, map, length, get_or, arith}
use Rattle.std.specs.Prelude.{◌+◌, ◌<◌, if◌then◌else◌}
use Rattle.std.specs.List.{All, find}
use Rattle.std.specs.Option.{option_map_or}
use Rattle.std.proofs.lemmas.List.{length-map}
use Rattle.hlc.specs.Readings.{nothing}
use Rattle.mr_base.specs.declared.nodes.NodeSet.{NodeSet}
use Rattle.node_states.proofs.NodeLemmas.{itself, other_test}
use Rattle.node_states.specs.Moves.{first_node}
use Rattle.node_states.specs.Stage.{AreNumbered, node_setup, setup_of}
use Rattle.node_states.specs.Ties.{IsAmong, IsNodeTied, NodesTied}
use Rattle.node_states.specs.declared.stage.NodePlan.{NodePlan}
use Rattle.node_states.specs.declared.stage.Stage.{Stage}
use Rattle.node_states.specs.declared.states.NodeState.{NodeState}
use Rattle.run_words.specs.Clocks.{phys, seen}
use Rattle.run_words.specs.Nodes.{boot, is_running}
use Rattle.run_words.specs.Setup.{NodeSetup, has_id}

-- The nodes as they are at first are what the words say of them.

plan_number : (from : ℕ) (plans : List NodePlan) (k : ℕ) (d : NodePlan) → AreNumbered from (map (λ plan. plan.info.id.0) plans) → k < length plans
    → (get_or plans k d).info.id.0 ≡ from + k + 1
plan_number from [] k d a l = absurd (omega arith)
plan_number from (plan ∷ plans) zero d a l = let e : plan.info.id.0 ≡ from + 1 = a.0 in grind (arith, e)
plan_number from (plan ∷ plans) (suc k) d a l =
    let e : (get_or plans k d).info.id.0 ≡ (from + 1) + k + 1 = plan_number (from + 1) plans k d a.1 (omega arith) in grind (arith, e)

-- the setup of the node of a number is found at its place
found_plan : (from : ℕ) (plans : List NodePlan) (k : ℕ) (d : NodePlan) → AreNumbered from (map (λ plan. plan.info.id.0) plans) → k < length plans
    → find (has_id (get_or plans k d).info.id) (map node_setup plans) ≡ Some (node_setup (get_or plans k d))
found_plan from [] k d a l = absurd (omega arith)
found_plan from (plan ∷ plans) zero d a l =
    ap (λ (b : Bool). if b then Some (node_setup plan) else find (has_id plan.info.id) (map node_setup plans)) (itself plan.info.id.0)
found_plan from (plan ∷ plans) (suc k) d a l =
    let here : plan.info.id.0 ≡ from + 1 = a.0 in
    let there : (get_or plans k d).info.id.0 ≡ (from + 1) + k + 1 = plan_number (from + 1) plans k d a.1 (omega arith) in
    let ne : (get_or plans k d).info.id.0 ≢ plan.info.id.0 = λ e. omega (arith, e, here, there) in
    ap (λ (b : Bool). if b then Some (node_setup plan) else find (has_id (get_or plans k d).info.id) (map node_setup plans)) (other_test plan.info.id (get_or plans k d).info.id ne)
    ∙ found_plan (from + 1) plans k d a.1 (omega arith)

plan_at : (plans : List NodePlan) (k : ℕ) (d : NodePlan) (e : NodeState) → k < length plans → get_or (map first_node plans) k e ≡ first_node (get_or plans k d)
plan_at [] k d e l = absurd (omega arith)
plan_at (plan ∷ plans) zero d e l = refl
plan_at (plan ∷ plans) (suc k) d e l = plan_at plans k d e (omega arith)

first_tied : (stage : Stage) (plan : NodePlan) → find (has_id plan.info.id) (map node_setup stage.nodes) ≡ Some (node_setup plan)
    → IsNodeTied (phys (setup_of stage) []) (seen (setup_of stage) []) (boot (setup_of stage) []) (is_running (setup_of stage) []) (first_node plan)
first_tied stage plan e =
    record {
      physical = sym (ap (λ (o : Option NodeSetup). option_map_or (λ node. node.clock) o 0) e);
      kept = sym (ap (λ (o : Option NodeSetup). option_map_or (λ node. node.seen) o nothing) e);
      boot_is = sym (ap (λ (o : Option NodeSetup). option_map_or (λ node. node.boot) o 1) e);
      runs_is = sym (ap (λ (o : Option NodeSetup). option_map_or (λ node. node.runs) o false) e);
    }

first_numbers : (from : ℕ) (plans : List NodePlan) → AreNumbered from (map (λ plan. plan.info.id.0) plans) → AreNumbered from (map (λ node. node.id.0) (map first_node plans))
first_numbers from [] a = tt
first_numbers from (plan ∷ plans) a = (a.0, first_numbers (from + 1) plans a.1)

some_plan : (plans : List NodePlan) (k : ℕ) → k < length plans → NodePlan
some_plan [] k l = absurd (omega arith)
some_plan (plan ∷ plans) k l = plan

pub first_nodes_tied : (stage : Stage) (nodes : List NodeState) (running : NodeSet) → AreNumbered 0 (map (λ plan. plan.info.id.0) stage.nodes) → nodes ≡ map first_node stage.nodes
    → All (IsAmong running) nodes → NodesTied (setup_of stage) [] nodes running
first_nodes_tied stage nodes running numbered e among =
    subst (λ (ns : List NodeState). All (IsAmong running) ns → NodesTied (setup_of stage) [] ns running) (sym e)
    (λ m. record {
      each = λ k d l. let lk : k < length stage.nodes = subst (λ (n : ℕ). k < n) (length-map stage.nodes first_node) l in
          let p : NodePlan = some_plan stage.nodes k lk in
          subst (IsNodeTied (phys (setup_of stage) []) (seen (setup_of stage) []) (boot (setup_of stage) []) (is_running (setup_of stage) [])) (sym (plan_at stage.nodes k p d lk))
          (first_tied stage (get_or stage.nodes k p) (found_plan 0 stage.nodes k p numbered lk));
      numbered = first_numbers 0 stage.nodes numbered;
      running_are = m;
    }) among

pub first_numbered : (stage : Stage) (nodes : List NodeState) → AreNumbered 0 (map (λ plan. plan.info.id.0) stage.nodes) → nodes ≡ map first_node stage.nodes
    → AreNumbered 0 (map (λ node. node.id.0) nodes)
first_numbered stage nodes numbered e = subst (λ (ns : List NodeState). AreNumbered 0 (map (λ node. node.id.0) ns)) (sym e) (first_numbers 0 stage.nodes numbered)
