use Rattle.std.proofs.Common.{◌≡◌, ℕ, ◌+◌, ◌-◌, ◌<◌, ◌≤◌, arith, List, [], ◌∷◌, ◌++◌, length, take, get_or, Bool, true, false, cond, ◌&&◌, ◌||◌, not, refl, ap, sym, ◌∙◌}
use Rattle.std.specs.Prelude.{map, filter, slice_get, option_map, Some, None}
use Rattle.std.specs.List.{list_any, cons_option}
use Rattle.std.specs.Str.{bytes_eq}
use Rattle.std.proofs.lemmas.List.{take_more, take-map, map-append, length-map, append-nil}
use Rattle.std.proofs.lemmas.Bool.Decides.{nat_tests}
use Rattle.std.proofs.lemmas.Option.{slice_get-map}
use Rattle.std.proofs.lemmas.List.Elements.{filter-append, filter_more, filter_map-append}
use Rattle.mr_base.specs.declared.ids.NodeId.{NodeId}
use Rattle.mr_base.specs.declared.nodes.NodeInfo.{NodeInfo}
use Rattle.placement.specs.Fitting.{ids_of}
use Rattle.placement.specs.Placing.{each_at, has_zone, in_region, is_first, one_per_zone, other_at, other_regions, region_voters, regions_lack}

any_filter : {A : Type 0} (p q : A → Bool) (xs : List A) → list_any p (filter q xs) ≡ list_any (λ x. q x && p x) xs
any_filter p q [] = refl
any_filter p q (x ∷ xs) =
    elim (q x) as (λ b. list_any p (cond b (x ∷ filter q xs) (filter q xs)) ≡ ((b && p x) || list_any (λ y. q y && p y) xs))
    [ true ↦ ap (λ r. p x || r) (any_filter p q xs) | false ↦ any_filter p q xs ]

-- what is left of a list of one after a filter
kept : {A : Type 0} (p : A → Bool) (x : A) (same taken : Bool) → p x ≡ not same → filter p (cond taken [] (x ∷ [])) ≡ cond (same || taken) [] (x ∷ [])
kept p x true true e = refl
kept p x false true e = refl
kept p x true false e = rw e refl
kept p x false false e = rw e refl

-- whether a node with its zone is among these
abbrev is_taken : List NodeInfo → NodeInfo → Bool
is_taken nodes s = list_any (λ t. bytes_eq t.zone s.zone) nodes

-- one more node at the end is the first of its zone, or its zone is taken
one_more : (xs : List NodeInfo) (s : NodeInfo) → one_per_zone (xs ++ s ∷ []) ≡ one_per_zone xs ++ cond (is_taken xs s) [] (s ∷ [])
one_more [] s = refl
one_more (x ∷ xs) s =
    ap (λ r. x ∷ filter (λ t. not (bytes_eq x.zone t.zone)) r) (one_more xs s)
    ∙ ap (λ r. x ∷ r) (filter-append (λ t. not (bytes_eq x.zone t.zone)) (one_per_zone xs) (cond (is_taken xs s) [] (s ∷ [])))
    ∙ ap (λ r. x ∷ (filter (λ t. not (bytes_eq x.zone t.zone)) (one_per_zone xs) ++ r)) (kept (λ t. not (bytes_eq x.zone t.zone)) s (bytes_eq x.zone s.zone) (is_taken xs s) refl)

-- the choice of one more node
chosen : (region : List ℕ) (earlier : List NodeInfo) (s : NodeInfo) → ids_of (one_per_zone (in_region region earlier ++ cond (bytes_eq s.region region) (s ∷ []) [])) ≡ ids_of (one_per_zone (in_region region earlier)) ++ cond (is_first region earlier s) (s.id ∷ []) []
chosen region earlier s =
    elim (bytes_eq s.region region) as (λ b. ids_of (one_per_zone (in_region region earlier ++ cond b (s ∷ []) [])) ≡ ids_of (one_per_zone (in_region region earlier)) ++ cond (b && not (has_zone region s.zone earlier)) (s.id ∷ []) []) [
      | true ↦ ap ids_of (one_more (in_region region earlier) s)
          ∙ map-append (λ (t : NodeInfo). t.id) (one_per_zone (in_region region earlier)) (cond (is_taken (in_region region earlier) s) [] (s ∷ []))
          ∙ ap (λ b. ids_of (one_per_zone (in_region region earlier)) ++ ids_of (cond b [] (s ∷ []))) (any_filter (λ t. bytes_eq t.zone s.zone) (λ t. bytes_eq t.region region) earlier)
          ∙ elim (has_zone region s.zone earlier) as (λ b. ids_of (one_per_zone (in_region region earlier)) ++ ids_of (cond b [] (s ∷ [])) ≡ ids_of (one_per_zone (in_region region earlier)) ++ cond (not b) (s.id ∷ []) []) [ true ↦ refl | false ↦ refl ]
      | false ↦ simp append-nil
    ]

-- the nodes chosen so far and the choice of the next
pub zones_more : (region : List ℕ) (nodes : List NodeInfo) (i : ℕ) (d : NodeInfo) → i < length nodes → ids_of (one_per_zone (in_region region (take (i + 1) nodes))) ≡ ids_of (one_per_zone (in_region region (take i nodes))) ++ cond (is_first region (take i nodes) (get_or nodes i d)) ((get_or nodes i d).id ∷ []) []
zones_more region nodes i d h =
    ap (λ r. ids_of (one_per_zone r)) (filter_more (λ t. bytes_eq t.region region) nodes i d h)
    ∙ chosen region (take i nodes) (get_or nodes i d)

-- what one more region adds
added : (place : ℕ) (nodes : List NodeInfo) (home : List ℕ) (regions : List (List ℕ)) (r : List ℕ) → each_at place nodes (other_regions home (regions ++ r ∷ [])) ≡ each_at place nodes (other_regions home regions) ++ other_at place nodes home r
added place nodes home regions r =
    ap (each_at place nodes) (filter-append (λ x. not (bytes_eq x home)) regions (r ∷ []))
    ∙ filter_map-append (λ x. slice_get (in_region x nodes) place) (other_regions home regions) (cond (not (bytes_eq r home)) (r ∷ []) [])
    ∙ elim (bytes_eq r home) as (λ b. each_at place nodes (other_regions home regions) ++ each_at place nodes (cond (not b) (r ∷ []) []) ≡ each_at place nodes (other_regions home regions) ++ cond b [] (each_at place nodes (r ∷ []))) [ true ↦ refl | false ↦ refl ]

pub others_more : (place : ℕ) (nodes : List NodeInfo) (home : List ℕ) (counts : List (List ℕ × ℕ)) (i : ℕ) (d : List ℕ × ℕ) → i < length counts → ids_of (each_at place nodes (other_regions home (map (λ k. k.0) (take (i + 1) counts)))) ≡ ids_of (each_at place nodes (other_regions home (map (λ k. k.0) (take i counts)))) ++ ids_of (other_at place nodes home (get_or counts i d).0)
others_more place nodes home counts i d h =
    ap (λ r. ids_of (each_at place nodes (other_regions home (map (λ k. k.0) r)))) (take_more counts i d h)
    ∙ ap (λ r. ids_of (each_at place nodes (other_regions home r))) (map-append (λ (k : List ℕ × ℕ). k.0) (take i counts) (get_or counts i d ∷ []))
    ∙ ap ids_of (added place nodes home (map (λ k. k.0) (take i counts)) (get_or counts i d).0)
    ∙ map-append (λ (t : NodeInfo). t.id) (each_at place nodes (other_regions home (map (λ k. k.0) (take i counts)))) (other_at place nodes home (get_or counts i d).0)

-- the number of the node at a place
pub ids_at : (nodes : List NodeInfo) (region : List ℕ) (place : ℕ) → ids_of (each_at place nodes (region ∷ [])) ≡ cons_option (slice_get (ids_of (in_region region nodes)) place) []
ids_at nodes region place =
    elim (slice_get (in_region region nodes) place) as (λ o. ids_of (cons_option o []) ≡ cons_option (option_map (λ s. s.id) o) []) [ None ↦ refl | Some s ↦ refl ]
    ∙ ap (λ o. cons_option o []) (sym (slice_get-map (λ (s : NodeInfo). s.id) (in_region region nodes) place))

pub zones_with : (region : List ℕ) (nodes : List NodeInfo) (i : ℕ) (s : NodeInfo) → i < length nodes → s ≡ get_or nodes i s → is_first region (take i nodes) s ≡ true → ids_of (one_per_zone (in_region region (take (i + 1) nodes))) ≡ ids_of (one_per_zone (in_region region (take i nodes))) ++ s.id ∷ []
zones_with region nodes i s h same first =
    zones_more region nodes i s h
    ∙ ap (λ t. ids_of (one_per_zone (in_region region (take i nodes))) ++ cond (is_first region (take i nodes) t) (t.id ∷ []) []) (sym same)
    ∙ ap (λ b. ids_of (one_per_zone (in_region region (take i nodes))) ++ cond b (s.id ∷ []) []) first

pub zones_without : (region : List ℕ) (nodes : List NodeInfo) (i : ℕ) (s : NodeInfo) → i < length nodes → s ≡ get_or nodes i s → is_first region (take i nodes) s ≡ false → ids_of (one_per_zone (in_region region (take (i + 1) nodes))) ≡ ids_of (one_per_zone (in_region region (take i nodes)))
zones_without region nodes i s h same first =
    zones_more region nodes i s h
    ∙ ap (λ t. ids_of (one_per_zone (in_region region (take i nodes))) ++ cond (is_first region (take i nodes) t) (t.id ∷ []) []) (sym same)
    ∙ ap (λ b. ids_of (one_per_zone (in_region region (take i nodes))) ++ cond b (s.id ∷ []) []) first
    ∙ simp append-nil

-- the numbers of the voters under region survival
pub voters_ids : (home : List ℕ) (regions : List (List ℕ)) (nodes : List NodeInfo) (h f s : List NodeId) → h ≡ ids_of (in_region home nodes) → f ≡ ids_of (each_at 0 nodes regions) → s ≡ ids_of (each_at 1 nodes regions) → take 2 h ++ take 3 f ++ take (3 - length f) s ≡ ids_of (region_voters home regions nodes)
voters_ids home regions nodes h f s eh ef es = rw (eh, ef, es) (simp (take-map, map-append, length-map))

pub lacks_five : (home : List ℕ) (regions : List (List ℕ)) (nodes : List NodeInfo) → 2 ≤ length (in_region home nodes) → length (region_voters home (other_regions home regions) nodes) < 5 → regions_lack home regions nodes ≡ Some (5, 4)
lacks_five home regions nodes h g = grind (arith, nat_tests)

pub lacks_none : (home : List ℕ) (regions : List (List ℕ)) (nodes : List NodeInfo) → 2 ≤ length (in_region home nodes) → 5 ≤ length (region_voters home (other_regions home regions) nodes) → regions_lack home regions nodes ≡ None
lacks_none home regions nodes h g = grind (arith, nat_tests)
