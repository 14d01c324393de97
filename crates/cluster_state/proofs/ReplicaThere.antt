-- A replica is of a node that is there.
use Rattle.std.proofs.Common.{◌≡◌, ℕ, ◌<◌, ◌+◌, Bool, true, false, cond, List, [], ◌∷◌, ◌++◌, length, map, refl, sym, ap, ◌∙◌, subst, arith, Some, None}
use Rattle.std.specs.Prelude.{◌==◌, Option}
use Rattle.std.specs.List.{All, Contains, find}
use Rattle.std.specs.Option.{option_map_or}
use Rattle.std.proofs.lemmas.List.Elements.{All-head, All-tail}
use Rattle.mr_base.specs.declared.ids.NodeId.{NodeId}
use Rattle.mr_base.specs.declared.ids.RangeId.{RangeId}
use Rattle.node_states.specs.Stage.{IsOfNode, IsPlaced, IsStage, range_setup, setup_of}
use Rattle.node_states.specs.declared.stage.RangePlan.{RangePlan}
use Rattle.node_states.specs.declared.stage.Stage.{Stage}
use Rattle.run_words.specs.History.{History}
use Rattle.run_words.specs.Ranges.{HoldsReplica, has_number}
use Rattle.run_words.specs.Setup.{RangeSetup}

abbrev nodes_of : Option RangeSetup → List NodeId
nodes_of range = option_map_or (λ range. range.voters ++ range.others) range []

none_held : (n : NodeId) → Contains {X = NodeId} [] n → ⊥
none_held n c = omega (arith, c.1)

held : (count : ℕ) (ns : List NodeId) (n : NodeId) → All (IsOfNode count) ns → Contains ns n → IsOfNode count n
held count ns n all c = subst (IsOfNode count) c.2 (all c.0 n c.1)

first_or_later : (t : Bool) (count : ℕ) (p : RangePlan) (later : Option RangeSetup) (n : NodeId) → IsPlaced count p → (Contains (nodes_of later) n → IsOfNode count n)
    → Contains (nodes_of (cond t (Some (range_setup p)) later)) n → IsOfNode count n
first_or_later true count p later n placed f c = held count (p.voters ++ p.others) n placed.nodes c
first_or_later false count p later n placed f c = f c

of_plans : (count : ℕ) (plans : List RangePlan) (j : RangeId) (n : NodeId) → All (IsPlaced count) plans → Contains (nodes_of (find (has_number j) (map range_setup plans))) n
    → IsOfNode count n
of_plans count [] j n all c = absurd (none_held n c)
of_plans count (p ∷ plans) j n all c =
    first_or_later (p.number.0 == j.0) count p (find (has_number j) (map range_setup plans)) n (All-head (IsPlaced count) p plans all)
    (λ d. of_plans count plans j n (All-tail (IsPlaced count) p plans all) d) c

pub replica_there : (stage : Stage) (h : History) (n : NodeId) (j : RangeId) → IsStage stage → HoldsReplica (setup_of stage) h n j → IsOfNode (length stage.nodes) n
replica_there stage h n j staged c = of_plans (length stage.nodes) stage.ranges j n staged.placed c
