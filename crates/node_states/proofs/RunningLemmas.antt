use Rattle.std.proofs.Common.{◌≡◌, ◌⊎◌, ℕ, zero, suc, true, false, List, [], ◌∷◌, inl, inr, ⊎_elim, refl, sym, ap, ◌∙◌, subst, map, length, arith}
use Rattle.std.specs.Prelude.{◌+◌, ◌<◌, ◌≤◌, ◌↔◌, nat_lt, slice_index_or}
use Rattle.std.specs.List.{All}
use Rattle.hlc.specs.Readings.{nothing}
use Rattle.mr_base.specs.Nodes.{IsMember, IsNode}
use Rattle.mr_base.specs.declared.ids.NodeId.{NodeId}
use Rattle.mr_base.specs.declared.nodes.NodeSet.{NodeSet}
use Rattle.node_states.specs.Stage.{AreNumbered}
use Rattle.node_states.specs.Ties.{IsAmong}
use Rattle.node_states.specs.declared.states.NodeState.{NodeState}

-- The set of nodes that run, as it grows.

abbrev nobody : NodeState
nobody = record { id = record { 0 = 0 }; clock = record { physical = 0; kept = nothing }; boot = 0; runs = false }

-- the node at a place
abbrev node_at : List NodeState → ℕ → NodeState
node_at nodes k = slice_index_or nodes k nobody

-- it is this one, and runs
abbrev RunsAt : List NodeState → ℕ → NodeId → Type 0
RunsAt nodes k m = (m ≡ (node_at nodes k).id) × ((node_at nodes k).runs ≡ true)

-- a set has those of the first nodes that run
abbrev pub IsAmongFirst : ℕ → List NodeState → NodeSet → Type 0
IsAmongFirst i nodes set = (m : NodeId) → IsNode m → IsMember set m ↔ ((k : ℕ) × (k < i) × RunsAt nodes k m)

-- nodes that are numbered have the numbers of their places
pub number_at : (from : ℕ) (nodes : List NodeState) (k : ℕ) (d : NodeState) → AreNumbered from (map (λ node. node.id.0) nodes) → k < length nodes
    → (slice_index_or nodes k d).id.0 ≡ from + k + 1
number_at from [] k d a l = absurd (omega arith)
number_at from (node ∷ nodes) zero d a l = let e : node.id.0 ≡ from + 1 = a.0 in grind (arith, e)
number_at from (node ∷ nodes) (suc k) d a l =
    let e : (slice_index_or nodes k d).id.0 ≡ (from + 1) + k + 1 = number_at (from + 1) nodes k d a.1 (omega arith) in grind (arith, e)

pub is_node_at : (nodes : List NodeState) (k : ℕ) (d : NodeState) → AreNumbered 0 (map (λ node. node.id.0) nodes) → length nodes ≤ 64 → k < length nodes
    → IsNode (slice_index_or nodes k d).id
is_node_at nodes k d a few l =
    let e : (slice_index_or nodes k d).id.0 ≡ 0 + k + 1 = number_at 0 nodes k d a l in (grind (arith, e), grind (arith, e, few, l))

below_zero : (k : ℕ) → k < 0 → ⊥
below_zero k l = omega (arith, l)

pub none_first : (nodes : List NodeState) (set : NodeSet) → ((n : NodeId) → ¬ IsMember set n) → IsAmongFirst 0 nodes set
none_first nodes set none m node = (λ i. absurd (none m i), λ x. absurd (below_zero x.0 x.1))

here : (nodes : List NodeState) (i : ℕ) (m : NodeId) → RunsAt nodes i m → (k : ℕ) × (k < i + 1) × RunsAt nodes k m
here nodes i m r = (i, omega arith, r)

before : (nodes : List NodeState) (i : ℕ) (m : NodeId) → (k : ℕ) × (k < i) × RunsAt nodes k m → (k : ℕ) × (k < i + 1) × RunsAt nodes k m
before nodes i m x = (x.0, omega (arith, x.1), x.2)

last_or_before : (nodes : List NodeState) (i k : ℕ) (m : NodeId) → (k < i) ⊎ (k ≡ i) → RunsAt nodes k m
    → RunsAt nodes i m ⊎ ((k : ℕ) × (k < i) × RunsAt nodes k m)
last_or_before nodes i k m (inl l) r = inr (k, l, r)
last_or_before nodes i k m (inr e) r = inl (subst (λ (j : ℕ). RunsAt nodes j m) e r)

split : (k i : ℕ) → k < i + 1 → (k < i) ⊎ (k ≡ i)
split k i l = elim (nat_lt k i) as (λ b. nat_lt k i ≡ b → (k < i) ⊎ (k ≡ i)) [ true ↦ λ e. inl (grind (arith, e)) | false ↦ λ e. inr (grind (arith, e, l)) ] refl

-- the default doesn't matter within a list
index_any : (nodes : List NodeState) (i : ℕ) (d e : NodeState) → i < length nodes → slice_index_or nodes i d ≡ slice_index_or nodes i e
index_any [] i d e l = absurd (omega arith)
index_any (node ∷ nodes) zero d e l = refl
index_any (node ∷ nodes) (suc i) d e l = index_any nodes i d e (omega arith)

-- a place at which the same node stands is the same
runs_as : (nodes : List NodeState) (k : ℕ) (d : NodeState) → (j : ℕ) × (j < length nodes) × RunsAt nodes j (slice_index_or nodes k d).id
    → AreNumbered 0 (map (λ node. node.id.0) nodes) → k < length nodes → (slice_index_or nodes k d).runs ≡ true
runs_as nodes k d x numbered l =
    let at : (slice_index_or nodes k d).id.0 ≡ 0 + k + 1 = number_at 0 nodes k d numbered l in
    let there : (node_at nodes x.0).id.0 ≡ 0 + x.0 + 1 = number_at 0 nodes x.0 nobody numbered x.1 in
    let ids : (slice_index_or nodes k d).id.0 ≡ (node_at nodes x.0).id.0 = ap (λ (n : NodeId). n.0) x.2.0 in
    let same : x.0 ≡ k = grind (arith, at, there, ids) in
    ap (λ (y : NodeState). y.runs) (index_any nodes k d nobody l) ∙ sym (ap (λ (j : ℕ). (node_at nodes j).runs) same) ∙ x.2.1

-- the set grows by the next node, where that runs
pub one_more : (nodes : List NodeState) (i : ℕ) (x : NodeState) (set new : NodeSet) → x ≡ slice_index_or nodes i x → i < length nodes → IsAmongFirst i nodes set
    → ((m : NodeId) → IsNode m → (IsMember new m ↔ (((m ≡ x.id) × (x.runs ≡ true)) ⊎ IsMember set m)))
    → IsAmongFirst (i + 1) nodes new
one_more nodes i x set new item l a step m node =
    let same : x ≡ node_at nodes i = item ∙ index_any nodes i x nobody l in
    let at : RunsAt nodes i m ↔ ((m ≡ x.id) × (x.runs ≡ true)) =
    subst (λ (y : NodeState). RunsAt nodes i m ↔ ((m ≡ y.id) × (y.runs ≡ true))) (sym same) ((λ r. r, λ r. r)) in (
      λ y. ⊎_elim (λ r. here nodes i m (at.1 r)) (λ q. before nodes i m ((a m node).0 q)) ((step m node).0 y),
      λ z. (step m node).1 (⊎_elim (λ r. inl (at.0 r)) (λ q. inr ((a m node).1 q)) (last_or_before nodes i z.0 m (split z.0 i z.1) z.2)),
    )

pub item_is_node : (nodes : List NodeState) (i : ℕ) (x : NodeState) → x ≡ slice_index_or nodes i x → AreNumbered 0 (map (λ node. node.id.0) nodes) → length nodes ≤ 64
    → i < length nodes → IsNode x.id
item_is_node nodes i x item a few l = subst (λ (y : NodeState). IsNode y.id) (sym item) (is_node_at nodes i x a few l)

-- a set of all that run has each where it runs
pub all_among : (nodes : List NodeState) (set : NodeSet) → AreNumbered 0 (map (λ node. node.id.0) nodes) → length nodes ≤ 64
    → IsAmongFirst (length nodes) nodes set → All (IsAmong set) nodes
all_among nodes set numbered few a k d l =
    let node : IsNode (slice_index_or nodes k d).id = is_node_at nodes k d numbered few l in
    let same : slice_index_or nodes k d ≡ node_at nodes k = index_any nodes k d nobody l in (
      λ y. runs_as nodes k d ((a (slice_index_or nodes k d).id node).0 y) numbered l,
      λ r. (a (slice_index_or nodes k d).id node).1 (k, l, (ap (λ (x : NodeState). x.id) same, sym (ap (λ (x : NodeState). x.runs) same) ∙ r)),
    )

pub all_among_at : (nodes : List NodeState) (i : ℕ) (set : NodeSet) → i ≡ length nodes → AreNumbered 0 (map (λ node. node.id.0) nodes) → length nodes ≤ 64
    → IsAmongFirst i nodes set → All (IsAmong set) nodes
all_among_at nodes i set e numbered few a = all_among nodes set numbered few (subst (λ (k : ℕ). IsAmongFirst k nodes set) e a)
