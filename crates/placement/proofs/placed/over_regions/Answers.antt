use Rattle.std.proofs.Common.{◌≡◌, ℕ, ◌<◌, ◌≤◌, List, length, map, drop, ap, ◌∙◌, arith}
use Rattle.std.proofs.lemmas.List.{drop-map, length-map}
use Rattle.mr_base.specs.declared.ids.NodeId.{NodeId}
use Rattle.mr_base.specs.declared.nodes.NodeInfo.{NodeInfo}
use Rattle.placement.specs.declared.placement_types.Placement.{Placement}
use Rattle.placement.specs.Fitting.{constrained_regions, ids_of}
use Rattle.placement.specs.Placing.{each_at, in_region, other_regions, region_voters}
use Rattle.placement.proofs.ChosenLemmas.{lacks_five, lacks_none, voters_ids}
use Rattle.placement.proofs.placed.over_regions.Goals as goal

pub returns-then-len-lt5 : goal.returns-then-len-lt5
returns-then-len-lt5 c =
    let home = c.args.home.now in let nodes = c.args.nodes.now in
    let all = constrained_regions c.args.c.now in let regions = other_regions home all in
    let at_home = c.in_ok-at_home.ensures in
    let lowest : c.as_slice-3.result.now ≡ ids_of (each_at 0 nodes regions) =
    c.as_slice-3.ensures.value ∙ c.in_ok-lowest.ensures ∙ ap (λ (k : List (List ℕ × ℕ)). ids_of (each_at 0 nodes (other_regions home (map (λ (j : List ℕ × ℕ). j.0) k)))) c.as_slice.ensures in
    let second : c.as_slice-4.result.now ≡ ids_of (each_at 1 nodes regions) =
    c.as_slice-4.ensures.value ∙ c.in_ok-second.ensures ∙ ap (λ (k : List (List ℕ × ℕ)). ids_of (each_at 1 nodes (other_regions home (map (λ (j : List ℕ × ℕ). j.0) k)))) c.as_slice-2.ensures in
    let voters : c.in_ok-voters.voters.items ≡ ids_of (region_voters home regions nodes) =
    c.in_ok-voters.ensures ∙ voters_ids home regions nodes _ _ _ at_home lowest second in
    let many : length c.in_ok-at_home.at_home.items ≡ length (in_region home nodes) = ap length at_home ∙ length-map _ _ in
    let few : length c.in_ok-voters.voters.items ≡ length (region_voters home regions nodes) = ap length voters ∙ length-map _ _ in
    let two : 2 ≤ length (in_region home nodes) = omega arith in
    let five : length (region_voters home regions nodes) < 5 = omega arith in
    rw (lacks_five home all nodes two five) c.unplaceable-then-len-lt5.ensures

pub returns : goal.returns
returns c =
    let home = c.args.home.now in let nodes = c.args.nodes.now in
    let all = constrained_regions c.args.c.now in let regions = other_regions home all in
    let at_home = c.in_ok-at_home.ensures in
    let lowest : c.in_ok-lowest.lowest.items ≡ ids_of (each_at 0 nodes regions) =
    c.in_ok-lowest.ensures ∙ ap (λ (k : List (List ℕ × ℕ)). ids_of (each_at 0 nodes (other_regions home (map (λ (j : List ℕ × ℕ). j.0) k)))) c.as_slice.ensures in
    let second : c.as_slice-4.result.now ≡ ids_of (each_at 1 nodes regions) =
    c.as_slice-4.ensures.value ∙ c.in_ok-second.ensures ∙ ap (λ (k : List (List ℕ × ℕ)). ids_of (each_at 1 nodes (other_regions home (map (λ (j : List ℕ × ℕ). j.0) k)))) c.as_slice-2.ensures in
    let voters : c.in_ok-voters.voters.items ≡ ids_of (region_voters home regions nodes) =
    c.in_ok-voters.ensures ∙ voters_ids home regions nodes _ _ _ at_home (c.as_slice-3.ensures.value ∙ lowest) second in
    let many : length c.in_ok-at_home.at_home.items ≡ length (in_region home nodes) = ap length at_home ∙ length-map _ _ in
    let few : length c.in_ok-voters.voters.items ≡ length (region_voters home regions nodes) = ap length voters ∙ length-map _ _ in
    let two : 2 ≤ length (in_region home nodes) = omega arith in
    let five : 5 ≤ length (region_voters home regions nodes) = omega arith in
    let others : c.from_vec-2.result ≡ ids_of (drop 3 (each_at 0 nodes regions)) =
    c.from_vec-2.ensures ∙ c.in_ok-others.ensures ∙ ap (drop 3) (c.as_slice-5.ensures.value ∙ lowest) ∙ drop-map (λ (s : NodeInfo). s.id) 3 (each_at 0 nodes regions) in (
      lacks_none home all nodes two five,
      ap (λ (v : List NodeId). let p : Placement = record { voters = v; others = c.from_vec-2.result } in p) (c.from_vec.ensures ∙ voters)
          ∙ ap (λ (o : List NodeId). let p : Placement = record { voters = ids_of (region_voters home regions nodes); others = o } in p) others,
    )
