-- The nodes of a cluster.
use Rattle.std.proofs.Common.{◌≡◌, ◌≢◌, ◌⊎◌, ℕ, ◌+◌, ◌<◌, List, length, get_or, [], ◌∷◌, ◌++◌, Bool, true, false, cond, None, All, Contains, fold, map, refl, ap, sym, ◌∙◌, subst, arith, inl, inr, IsUtf8}
use Rattle.std.proofs.lemmas.Bool.{cases_eq}
use Rattle.std.proofs.lemmas.List.{get_or_default}
use Rattle.std.proofs.lemmas.List.{length-map, get_or-map}
use Rattle.std.proofs.lemmas.List.Elements.{All-contains, All-head, All-nil, All-push, All-tail}
use Rattle.std.proofs.lemmas.List.Quantifiers.{all_pairs_push}
use Rattle.mr_base.specs.declared.nodes.NodeInfo.{NodeInfo}
use Rattle.descriptors.specs.Contents.{Contents}
use Rattle.descriptors.specs.Lists.{has_name}
use Rattle.descriptors.specs.Sound.{AreDistinct, IsCluster}
use Rattle.descriptors.proofs.Found.{not_named}
use Rattle.zone_report.specs.Nodes.{AreNodes, Serve, regions_of, with_region}
use Rattle.zone_report.specs.Statements.{IsPlaceable}

-- One more node that has P.
pub one_more : (P : ℕ → NodeInfo → Type 0) (nodes : List NodeInfo) (i : ℕ) (node : NodeInfo) → i < length nodes → node ≡ get_or nodes i node → P i node → ((k : ℕ) (other : NodeInfo) → k < i → P k (get_or nodes k other)) → (k : ℕ) (other : NodeInfo) → k < i + 1 → P k (get_or nodes k other)
one_more P nodes i node lt at here before k other within = by (cases_eq k i)
  where
    by : (k ≡ i) ⊎ (k ≡ i → ⊥) → P k (get_or nodes k other)
    by (inl same) = subst (λ n. P n (get_or nodes n other)) (sym same) (subst (P i) (at ∙ get_or_default nodes i node other lt) here)
    by (inr differ) = before k other (omega arith)

pub numbered_more : (nodes : List NodeInfo) (i : ℕ) (node : NodeInfo) → i < length nodes → node ≡ get_or nodes i node → node.id.0 ≡ i + 1 → ((k : ℕ) (other : NodeInfo) → k < i → (get_or nodes k other).id.0 ≡ k + 1) → (k : ℕ) (other : NodeInfo) → k < i + 1 → (get_or nodes k other).id.0 ≡ k + 1
numbered_more nodes i node = one_more (λ k n. n.id.0 ≡ k + 1) nodes i node

-- ---- the regions of nodes

distinct_with : (regions : List (List ℕ)) (node : NodeInfo) → AreDistinct regions → AreDistinct (with_region regions node)
distinct_with regions node h = by (has_name regions node.region) refl
  where
    by : (b : Bool) → has_name regions node.region ≡ b → AreDistinct (with_region regions node)
    by true e = subst (λ b. AreDistinct (cond b regions (regions ++ node.region ∷ []))) (sym e) h
    by false e =
        subst (λ b. AreDistinct (cond b regions (regions ++ node.region ∷ []))) (sym e)
        (all_pairs_push (λ x y. x ≢ y) regions node.region h (λ k d lt same. not_named regions node.region e k d lt (sym same)))

distinct_fold : (regions : List (List ℕ)) (nodes : List NodeInfo) → AreDistinct regions → AreDistinct (fold with_region regions nodes)
distinct_fold regions [] h = h
distinct_fold regions (node ∷ nodes) h = distinct_fold (with_region regions node) nodes (distinct_with regions node h)

all_with : (P : List ℕ → Type 0) (regions : List (List ℕ)) (node : NodeInfo) → All P regions → P node.region → All P (with_region regions node)
all_with P regions node h p = elim (has_name regions node.region) as (λ b. All P (cond b regions (regions ++ node.region ∷ []))) [ true ↦ h | false ↦ All-push P regions node.region h p ]

all_fold : (P : List ℕ → Type 0) (regions : List (List ℕ)) (nodes : List NodeInfo) → All P regions → All (λ s. P s.region) nodes → All P (fold with_region regions nodes)
all_fold P regions [] h each = h
all_fold P regions (node ∷ nodes) h each = all_fold P (with_region regions node) nodes (all_with P regions node h (All-head (λ s. P s.region) node nodes each)) (All-tail (λ s. P s.region) node nodes each)

pub is_cluster : (nodes : List NodeInfo) → AreNodes nodes → IsCluster (regions_of nodes)
is_cluster nodes h = record {
  few = h.few;
  distinct = distinct_fold [] nodes (λ i j d lt within. absurd (omega arith));
  names = all_fold IsUtf8 [] nodes (All-nil IsUtf8) h.names;
}

named_by_one : (nodes : List NodeInfo) → All (λ s. Contains (map (λ (t : NodeInfo). t.region) nodes) s.region) nodes
named_by_one nodes k d lt = (k, omega (arith, lt, length-map nodes (λ (t : NodeInfo). t.region)), get_or-map (λ (t : NodeInfo). t.region) nodes k d (get_or nodes k d).region lt)

pub nodes_serve : (nodes : List NodeInfo) → AreNodes nodes → Serve nodes (regions_of nodes)
nodes_serve nodes h = record {
  some = h.some;
  rising = λ i j d before within. omega (arith, before, within, h.numbered i d (omega (arith, before, within)), h.numbered j d within);
  each = λ region there. All-contains (Contains (map (λ (t : NodeInfo). t.region) nodes)) (regions_of nodes) region
      (all_fold (Contains (map (λ (t : NodeInfo). t.region) nodes)) [] nodes (All-nil (Contains (map (λ (t : NodeInfo). t.region) nodes))) (named_by_one nodes)) there;
}

-- A catalog without tables.
pub new_placeable : (nodes same : List NodeInfo) (regions : List (List ℕ)) (c : Contents) → AreNodes nodes → same ≡ nodes → regions ≡ regions_of nodes → c ≡ record { regions = regions; databases = []; tables = []; current = None } → IsPlaceable (record { nodes = same; contents = c })
new_placeable nodes same regions c h s r e = record {
  served = subst (λ l. Serve l c.regions) (sym s) (subst (Serve nodes) (sym (ap (λ (x : Contents). x.regions) e ∙ r)) (nodes_serve nodes h));
  placed = subst (λ (x : Contents). Rattle.zone_report.specs.Refusals.first_lack same (Rattle.zone_report.specs.Ranges.ranges x) ≡ None) (sym e) refl;
}
