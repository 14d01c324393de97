-- What the tests of a placement tell.
use Rattle.std.proofs.Common.{◌≡◌, ◌≢◌, ℕ, ◌<◌, ◌≤◌, Bool, true, false, not, ◌&&◌, ◌||◌, nat_le, List, [], ◌∷◌, ◌++◌, length, refl, ap, sym, ◌∙◌, subst, inl, inr, arith, true≢false}
use Rattle.std.specs.Prelude.{◌==◌, All, Contains, IfSome, IsSomeAnd, map, slice_get, is_none, Option, Some, None}
use Rattle.std.specs.List.{list_all, list_any}
use Rattle.std.specs.Str.{bytes_eq}
use Rattle.std.proofs.lemmas.Bool.Decides.{nat_tests}
use Rattle.std.proofs.lemmas.List.{length-map}
use Rattle.std.proofs.lemmas.Option.{none-some, same_Some}
use Rattle.mr_base.specs.declared.ids.NodeId.{NodeId}
use Rattle.mr_base.specs.declared.nodes.NodeInfo.{NodeInfo}
use Rattle.mr_base.specs.Nodes.{IsMember}
use Rattle.region_sql.specs.declared.region_statements.Goal.{Goal}
use Rattle.region_sql.specs.declared.region_statements.Goal.TheVariants.{Zone, Region}
use Rattle.zone_compile.specs.declared.config.ZoneConfig.{ZoneConfig}
use Rattle.zone_compile.specs.Configuration.{HasForm}
use Rattle.placement.specs.declared.placement_types.Placement.{Placement}
use Rattle.placement.specs.Majority.{SurvivesLosses, remains}
use Rattle.placement.specs.Fitting.{Fits, Names, SameZone, ServeFor, count_in, ids_of}
use Rattle.placement.specs.Tests.{first_is_at, fit, fits, found, has_region, has_two_at, ids_differ, is_at, is_named, same_zone, suits, zones_differ}
use Rattle.placement.proofs.Lists.{Has, Pairs, all_from_has, all_pairs_from, contains_from_has, count_none, count_one, has_from_all, has_from_contains, has_left, has_map, has_right, map_has, pairs_from_all, pairs_map, pairs_unmap, pairs_weaker, has_either}
use Rattle.placement.proofs.Regions.{Rising, bytes_differ, bytes_same, same_bytes}
use Rattle.placement.proofs.Fit.{lost_member, majority_of}
use Rattle.placement.proofs.FitRegions.{count_fewer}
use Rattle.placement.proofs.TestedNodes.{all_of, and_both, any_of, both_and, each_of, found_again, found_in, named_ids, number_same, or_cases, or_left, or_right, same_id, same_number, some_of}

-- ---- replicas are distinct

not_same : (a b : NodeId) → a ≢ b → not (a.0 == b.0) ≡ true
not_same a b ne = by (a.0 == b.0) refl
  where
    by : (t : Bool) → (a.0 == b.0) ≡ t → not (a.0 == b.0) ≡ true
    by true e = absurd (ne (same_id a b (same_number a.0 b.0 e)))
    by false e = ap not e

apart_of : (xs : List NodeInfo) → ids_differ xs ≡ true → Pairs (λ s t. s.id ≢ t.id) xs
apart_of [] h = tt
apart_of (s ∷ xs) h =
    let both = and_both (list_all (λ t. not (s.id.0 == t.id.0)) xs) (ids_differ xs) h in
    (λ t k e. true≢false (sym (each_of (λ (x : NodeInfo). not (s.id.0 == x.id.0)) xs both.0 t k) ∙ ap not (number_same s.id.0 t.id.0 (ap (λ (n : NodeId). n.0) e))), apart_of xs both.1)

of_apart : (xs : List NodeInfo) → Pairs (λ s t. s.id ≢ t.id) xs → ids_differ xs ≡ true
of_apart [] h = refl
of_apart (s ∷ xs) h = both_and (list_all (λ t. not (s.id.0 == t.id.0)) xs) (ids_differ xs) (all_of (λ (t : NodeInfo). not (s.id.0 == t.id.0)) xs (λ t k. not_same s.id t.id (h.0 t k))) (of_apart xs h.1)

-- ---- regions

at_home : (lease : Option (List ℕ)) (s : NodeInfo) → is_at lease s ≡ true → lease ≡ Some s.region
at_home None s h = absurd (true≢false (sym h))
at_home (Some home) s h = ap Some (sym (same_bytes s.region home h))

home_at : (lease : Option (List ℕ)) (s : NodeInfo) → lease ≡ Some s.region → is_at lease s ≡ true
home_at None s e = absurd (none-some s.region e)
home_at (Some home) s e = bytes_same s.region home (sym (same_Some home s.region e))

names_of : (c : ZoneConfig) (s : NodeInfo) → is_named c s ≡ true → Names c s.region
names_of c s h = elim (or_cases (is_at c.lease s) (list_any (λ k. bytes_eq k.0 s.region) c.constraints) h) [
  | inl e ↦ inl (at_home c.lease s e)
  | inr k ↦
      (let some = some_of (λ (j : List ℕ × ℕ). bytes_eq j.0 s.region) c.constraints k in
      let P : List ℕ → Type 0 = λ r. Has (map (λ (j : List ℕ × ℕ). j.0) c.constraints) r in
      inr (contains_from_has (map (λ (j : List ℕ × ℕ). j.0) c.constraints) s.region (subst P (same_bytes some.0.0 s.region some.2) (has_map (λ (j : List ℕ × ℕ). j.0) c.constraints some.0 some.1))))
]

of_names : (c : ZoneConfig) (s : NodeInfo) → Names c s.region → is_named c s ≡ true
of_names c s (inl e) = or_left (is_at c.lease s) (list_any (λ k. bytes_eq k.0 s.region) c.constraints) (home_at c.lease s e)
of_names c s (inr k) =
    let some = map_has (λ (j : List ℕ × ℕ). j.0) c.constraints s.region (has_from_contains (map (λ (j : List ℕ × ℕ). j.0) c.constraints) s.region k) in
    or_right (is_at c.lease s) (list_any (λ k. bytes_eq k.0 s.region) c.constraints) (any_of (λ (j : List ℕ × ℕ). bytes_eq j.0 s.region) c.constraints some.0 some.1 (bytes_same some.0.0 s.region some.2))

-- ---- zones

not_in_one : (s t : NodeInfo) → not (same_zone s t) ≡ true → ¬ SameZone s t
not_in_one s t h same = true≢false (sym h ∙ ap not (both_and (bytes_eq s.region t.region) (bytes_eq s.zone t.zone) (bytes_same s.region t.region same.0) (bytes_same s.zone t.zone same.1)))

in_two : (s t : NodeInfo) → (¬ SameZone s t) → not (same_zone s t) ≡ true
in_two s t ne = by (same_zone s t) refl
  where
    by : (b : Bool) → same_zone s t ≡ b → not (same_zone s t) ≡ true
    by true e = let both = and_both (bytes_eq s.region t.region) (bytes_eq s.zone t.zone) e in absurd (ne (same_bytes s.region t.region both.0, same_bytes s.zone t.zone both.1))
    by false e = ap not e

zones_of : (xs : List NodeInfo) → zones_differ xs ≡ true → Pairs (λ s t. ¬ SameZone s t) xs
zones_of [] h = tt
zones_of (s ∷ xs) h =
    let both = and_both (list_all (λ t. not (same_zone s t)) xs) (zones_differ xs) h in
    (λ t k. not_in_one s t (each_of (λ (x : NodeInfo). not (same_zone s x)) xs both.0 t k), zones_of xs both.1)

of_zones : (xs : List NodeInfo) → Pairs (λ s t. ¬ SameZone s t) xs → zones_differ xs ≡ true
of_zones [] h = refl
of_zones (s ∷ xs) h = both_and (list_all (λ t. not (same_zone s t)) xs) (zones_differ xs) (all_of (λ (t : NodeInfo). not (same_zone s t)) xs (λ t k. in_two s t (h.0 t k))) (of_zones xs h.1)

-- ---- what a goal asks of the voters

at_most : (at : List NodeInfo) → list_all (λ s. nat_le (count_in s.region at) 2) at ≡ true → (region : List ℕ) → count_in region at ≤ 2
at_most at h region = by (has_region at region) refl
  where
    by : (b : Bool) → has_region at region ≡ b → count_in region at ≤ 2
    by true e =
        let some = some_of (λ (s : NodeInfo). bytes_eq s.region region) at e in
        let few = each_of (λ (s : NodeInfo). nat_le (count_in s.region at) 2) at h some.0 some.1 in
        let most : count_in some.0.region at ≤ 2 = grind (arith, nat_tests) in
        subst (λ r. count_in r at ≤ 2) (same_bytes some.0.region region some.2) most
    by false e =
        let none : count_in region at ≡ 0 = count_none (λ (s : NodeInfo). bytes_eq s.region region) at (λ s k. bytes_differ s.region region (λ same. true≢false (sym (any_of (λ (t : NodeInfo). bytes_eq t.region region) at s k (bytes_same s.region region same)) ∙ e))) in
        omega arith

two_of : (lease : Option (List ℕ)) (at : List NodeInfo) → has_two_at lease at ≡ true → IfSome lease (λ home. 2 ≤ count_in home at)
two_of None at h = tt
two_of (Some home) at h = grind (arith, nat_tests)

of_two : (lease : Option (List ℕ)) (at : List NodeInfo) → IfSome lease (λ home. 2 ≤ count_in home at) → has_two_at lease at ≡ true
of_two None at h = refl
of_two (Some home) at h = grind (arith, nat_tests)

first_of : (lease : Option (List ℕ)) (at : List NodeInfo) → first_is_at lease at ≡ true → IfSome lease (λ home. IsSomeAnd (slice_get at 0) (λ s. s.region ≡ home))
first_of None at h = tt
first_of (Some home) [] h = absurd (true≢false (sym h))
first_of (Some home) (s ∷ at) h = same_bytes s.region home h

of_first : (lease : Option (List ℕ)) (at : List NodeInfo) → IfSome lease (λ home. IsSomeAnd (slice_get at 0) (λ s. s.region ≡ home)) → first_is_at lease at ≡ true
of_first None at h = refl
of_first (Some home) [] h = absurd h
of_first (Some home) (s ∷ at) h = bytes_same s.region home h

-- What a goal asks of the voters, apart from their number.
record Suits (goal : Option Goal) (lease : Option (List ℕ)) (at : List NodeInfo) : Type 0 where
  all_at_home : goal ≡ Some Zone → All (λ s. lease ≡ Some s.region) at
  zones_apart : goal ≡ Some Zone → Pairs (λ s t. ¬ SameZone s t) at
  two_at_home : goal ≡ Some Region → IfSome lease (λ home. 2 ≤ count_in home at)
  two_at_most : goal ≡ Some Region → (region : List ℕ) → count_in region at ≤ 2

suits_of : (goal : Option Goal) (lease : Option (List ℕ)) (at : List NodeInfo) → suits goal lease at ≡ true → Suits goal lease at
suits_of None lease at h = record { all_at_home = λ e. absurd cc; zones_apart = λ e. absurd cc; two_at_home = λ e. absurd cc; two_at_most = λ e. absurd cc }
suits_of (Some Zone) lease at h =
    let both = and_both (list_all (is_at lease) at) (zones_differ at) h in record {
      all_at_home = λ e. all_from_has (λ s. lease ≡ Some s.region) at (λ s k. at_home lease s (each_of (is_at lease) at both.0 s k));
      zones_apart = λ e. zones_of at both.1;
      two_at_home = λ e. absurd cc;
      two_at_most = λ e. absurd cc;
    }
suits_of (Some Region) lease at h =
    let both = and_both (has_two_at lease at) (list_all (λ s. nat_le (count_in s.region at) 2) at) h in record {
      all_at_home = λ e. absurd cc;
      zones_apart = λ e. absurd cc;
      two_at_home = λ e. two_of lease at both.0;
      two_at_most = λ e. at_most at both.1;
    }

of_suits : (goal : Option Goal) (lease : Option (List ℕ)) (at : List NodeInfo) → Suits goal lease at → suits goal lease at ≡ true
of_suits None lease at s = refl
of_suits (Some Zone) lease at s =
    both_and (list_all (is_at lease) at) (zones_differ at)
    (all_of (is_at lease) at (λ n k. home_at lease n (has_from_all (λ x. lease ≡ Some x.region) at (s.all_at_home refl) n k)))
    (of_zones at (s.zones_apart refl))
of_suits (Some Region) lease at s =
    both_and (has_two_at lease at) (list_all (λ n. nat_le (count_in n.region at) 2) at)
    (of_two lease at (s.two_at_home refl))
    (all_of (λ n. nat_le (count_in n.region at) 2) at (λ n k. let most = s.two_at_most refl n.region in grind (arith, nat_tests)))

-- ---- losses

voters_of_zone : (c : ZoneConfig) → HasForm c → c.goal ≡ Some Zone → c.num_voters ≡ 3
voters_of_zone c (inl e) g = absurd (none-some Zone (sym (ap (λ (x : ZoneConfig). x.goal) e) ∙ g))
voters_of_zone c (inr (inl h)) g = ap (λ (x : ZoneConfig). x.num_voters) h.2
voters_of_zone c (inr (inr (Zone, regions, home, global, at, e))) g = ap (λ (x : ZoneConfig). x.num_voters) e
voters_of_zone c (inr (inr (Region, regions, home, global, at, e))) g = absurd (let other = ap (λ (x : ZoneConfig). x.goal) e in cc)

voters_of_region : (c : ZoneConfig) → HasForm c → c.goal ≡ Some Region → c.num_voters ≡ 5
voters_of_region c (inl e) g = absurd (none-some Region (sym (ap (λ (x : ZoneConfig). x.goal) e) ∙ g))
voters_of_region c (inr (inl h)) g = absurd (let other = ap (λ (x : ZoneConfig). x.goal) h.2 in cc)
voters_of_region c (inr (inr (Zone, regions, home, global, at, e))) g = absurd (let other = ap (λ (x : ZoneConfig). x.goal) e in cc)
voters_of_region c (inr (inr (Region, regions, home, global, at, e))) g = ap (λ (x : ZoneConfig). x.num_voters) e

survive : (goal : Option Goal) (lease : Option (List ℕ)) (nodes at : List NodeInfo) → Suits goal lease at → ((s : NodeInfo) → Has at s → Has nodes s) → (goal ≡ Some Zone → length at ≡ 3) → (goal ≡ Some Region → length at ≡ 5) → SurvivesLosses goal nodes (ids_of at)
survive None lease nodes at s inside three five lost loss = absurd loss
survive (Some Zone) lease nodes at s inside three five lost loss =
    let lies : (n : NodeInfo) → Has nodes n → (IsMember lost n.id → (n.region ≡ loss.0) × (n.zone ≡ loss.1)) = has_from_all (λ n. IsMember lost n.id → (n.region ≡ loss.0) × (n.zone ≡ loss.1)) nodes loss.2 in
    let many = three refl in
    majority_of at lost 1 (omega (arith, many))
    (count_one (λ n. not (remains lost n.id)) at
    (pairs_weaker (λ n m. ¬ SameZone n m) (λ n m. not (remains lost n.id) ≡ true → not (remains lost m.id) ≡ true → ⊥) at
    (λ n m h l ne a b.
    let x = lies n (inside n h) (lost_member lost n.id a) in
    let y = lies m (inside m l) (lost_member lost m.id b) in
    ne (x.0 ∙ sym y.0, x.1 ∙ sym y.1))
    (s.zones_apart refl)))
survive (Some Region) lease nodes at s inside three five lost loss =
    let lies : (n : NodeInfo) → Has nodes n → IsMember lost n.id → n.region ≡ loss.0 = has_from_all (λ n. IsMember lost n.id → n.region ≡ loss.0) nodes loss.1 in
    let bound = s.two_at_most refl loss.0 in
    let many = five refl in
    let fewer = count_fewer (λ n. not (remains lost n.id)) (λ n. bytes_eq n.region loss.0) at (λ n h e. bytes_same n.region loss.0 (lies n (inside n h) (lost_member lost n.id e))) in
    majority_of at lost 2 (omega (arith, many)) (omega (arith, fewer, bound))

-- ---- a placement

within_of : (c : ZoneConfig) (all : List NodeInfo) → (is_none c.goal || list_all (is_named c) all) ≡ true → c.goal ≢ None → All (λ s. Names c s.region) all
within_of c all h some = by c.goal refl
  where
    by : (g : Option Goal) → c.goal ≡ g → All (λ s. Names c s.region) all
    by None e = absurd (some e)
    by (Some g) e = all_from_has (λ s. Names c s.region) all (λ s k. names_of c s (each_of (is_named c) all (subst (λ x. (is_none x || list_all (is_named c) all) ≡ true) e h) s k))

of_within : (c : ZoneConfig) (all : List NodeInfo) → (c.goal ≢ None → All (λ s. Names c s.region) all) → (is_none c.goal || list_all (is_named c) all) ≡ true
of_within c all h = by c.goal refl
  where
    by : (g : Option Goal) → c.goal ≡ g → (is_none c.goal || list_all (is_named c) all) ≡ true
    by None e = or_left (is_none c.goal) (list_all (is_named c) all) (ap is_none e)
    by (Some g) e = or_right (is_none c.goal) (list_all (is_named c) all) (all_of (is_named c) all (λ s k. of_names c s (has_from_all (λ x. Names c x.region) all (h (λ none. none-some g (sym none ∙ e))) s k)))

pub fitting : (c : ZoneConfig) (nodes : List NodeInfo) (p : Placement) → HasForm c → fits c nodes p ≡ true → Fits c nodes p
fitting c nodes p form h =
    let at = found nodes p.voters in let beside = found nodes p.others in let all = at ++ beside in
    let a = and_both ((length at == length p.voters) && (length beside == length p.others)) (fit c at all) h in
    let ids = and_both (length at == length p.voters) (length beside == length p.others) a.0 in
    let t6 = and_both (ids_differ all && (length all == c.num_replicas) && (length at == c.num_voters) && (is_none c.goal || list_all (is_named c) all) && list_all (λ k. nat_le k.1 (count_in k.0 all)) c.constraints && suits c.goal c.lease at) (first_is_at c.lease at) a.1 in
    let t5 = and_both (ids_differ all && (length all == c.num_replicas) && (length at == c.num_voters) && (is_none c.goal || list_all (is_named c) all) && list_all (λ k. nat_le k.1 (count_in k.0 all)) c.constraints) (suits c.goal c.lease at) t6.0 in
    let t4 = and_both (ids_differ all && (length all == c.num_replicas) && (length at == c.num_voters) && (is_none c.goal || list_all (is_named c) all)) (list_all (λ k. nat_le k.1 (count_in k.0 all)) c.constraints) t5.0 in
    let t3 = and_both (ids_differ all && (length all == c.num_replicas) && (length at == c.num_voters)) (is_none c.goal || list_all (is_named c) all) t4.0 in
    let t2 = and_both (ids_differ all && (length all == c.num_replicas)) (length at == c.num_voters) t3.0 in
    let t1 = and_both (ids_differ all) (length all == c.num_replicas) t2.0 in
    let s : Suits c.goal c.lease at = suits_of c.goal c.lease at t5.1 in
    let many : length at ≡ c.num_voters = same_number (length at) c.num_voters t2.1 in
    let named : ids_of at ≡ p.voters = named_ids nodes p.voters (same_number (length at) (length p.voters) ids.0) in
    let inside : (n : NodeInfo) → Has all n → Has nodes n = λ n k. elim (has_either at beside n k) [ inl l ↦ found_in nodes p.voters n l | inr r ↦ found_in nodes p.others n r ] in
    record {
      at = at;
      beside = beside;
      named = sym named;
      named_others = sym (named_ids nodes p.others (same_number (length beside) (length p.others) ids.1));
      known = all_from_has (Contains nodes) all (λ n k. contains_from_has nodes n (inside n k));
      distinct = all_pairs_from (λ x y. x ≢ y) (ids_of all) (pairs_map (λ x y. x ≢ y) (λ (n : NodeInfo). n.id) all (apart_of all t1.0));
      replicas = same_number (length all) c.num_replicas t1.1;
      voters = many;
      within = within_of c all t3.1;
      constrained = all_from_has (λ k. k.1 ≤ count_in k.0 all) c.constraints (λ k there. let enough = each_of (λ (j : List ℕ × ℕ). nat_le j.1 (count_in j.0 all)) c.constraints t4.1 k there in grind (arith, nat_tests));
      all_at_home = s.all_at_home;
      zones_apart = λ e. all_pairs_from (λ n m. ¬ SameZone n m) at (s.zones_apart e);
      two_at_home = s.two_at_home;
      two_at_most = s.two_at_most;
      first_at_home = first_of c.lease at t6.1;
      survives = subst (SurvivesLosses c.goal nodes) named (survive c.goal c.lease nodes at s (λ n k. inside n (has_left at beside n k)) (λ g. many ∙ voters_of_zone c form g) (λ g. many ∙ voters_of_region c form g));
    }

pub fitting_back : (c : ZoneConfig) (nodes : List NodeInfo) (p : Placement) → ServeFor c nodes → Fits c nodes p → fits c nodes p ≡ true
fitting_back c nodes p serving' f =
    let up : Rising nodes = pairs_from_all (λ s t. s.id.0 < t.id.0) nodes serving'.rising in
    let all = f.at ++ f.beside in
    let inside : (n : NodeInfo) → Has all n → Has nodes n = λ n k. has_from_contains nodes n (has_from_all (Contains nodes) all f.known n k) in
    let at : found nodes p.voters ≡ f.at = ap (found nodes) f.named ∙ found_again nodes f.at up (λ n k. inside n (has_left f.at f.beside n k)) in
    let beside : found nodes p.others ≡ f.beside = ap (found nodes) f.named_others ∙ found_again nodes f.beside up (λ n k. inside n (has_right f.at f.beside n k)) in
    let s : Suits c.goal c.lease f.at = record { all_at_home = f.all_at_home; zones_apart = λ e. pairs_from_all (λ n m. ¬ SameZone n m) f.at (f.zones_apart e); two_at_home = f.two_at_home; two_at_most = f.two_at_most } in
    let fine : fit c f.at all ≡ true =
    both_and _ (first_is_at c.lease f.at) (both_and _ (suits c.goal c.lease f.at) (both_and _ (list_all (λ k. nat_le k.1 (count_in k.0 all)) c.constraints) (both_and _ (is_none c.goal || list_all (is_named c) all)
    (both_and _ (length f.at == c.num_voters) (both_and (ids_differ all) (length all == c.num_replicas)
    (of_apart all (pairs_unmap (λ x y. x ≢ y) (λ (n : NodeInfo). n.id) all (pairs_from_all (λ x y. x ≢ y) (ids_of all) f.distinct)))
    (number_same (length all) c.num_replicas f.replicas)) (number_same (length f.at) c.num_voters f.voters))
    (of_within c all f.within))
    (all_of (λ (k : List ℕ × ℕ). nat_le k.1 (count_in k.0 all)) c.constraints (λ k there. let enough = has_from_all (λ (j : List ℕ × ℕ). j.1 ≤ count_in j.0 all) c.constraints f.constrained k there in grind (arith, nat_tests))))
    (of_suits c.goal c.lease f.at s)) (of_first c.lease f.at f.first_at_home) in
    both_and ((length (found nodes p.voters) == length p.voters) && (length (found nodes p.others) == length p.others)) (fit c (found nodes p.voters) (found nodes p.voters ++ found nodes p.others))
    (both_and (length (found nodes p.voters) == length p.voters) (length (found nodes p.others) == length p.others)
    (number_same (length (found nodes p.voters)) (length p.voters) (ap length at ∙ sym (length-map f.at (λ (n : NodeInfo). n.id)) ∙ ap length (sym f.named)))
    (number_same (length (found nodes p.others)) (length p.others) (ap length beside ∙ sym (length-map f.beside (λ (n : NodeInfo). n.id)) ∙ ap length (sym f.named_others))))
    (ap (λ x. fit c x (x ++ found nodes p.others)) at ∙ ap (λ y. fit c f.at (f.at ++ y)) beside ∙ fine)

-- ---- the functions

pub fits_exactly : (c : ZoneConfig) (nodes : List NodeInfo) (p : Placement) (at beside all : List NodeInfo) (answer : Bool) → HasForm c → ServeFor c nodes → at ≡ found nodes p.voters → beside ≡ found nodes p.others → all ≡ at ++ beside
    → answer ≡ ((length at == length p.voters) && (length beside == length p.others) && fit c at all) → (answer ≡ true → Fits c nodes p) × (Fits c nodes p → answer ≡ true)
fits_exactly c nodes p at beside all answer form serving' a b j e =
    let same : answer ≡ fits c nodes p =
    e ∙ ap (λ l. (length at == length p.voters) && (length beside == length p.others) && fit c at l) j
    ∙ ap (λ l. (length l == length p.voters) && (length beside == length p.others) && fit c l (l ++ beside)) a
    ∙ ap (λ l. (length (found nodes p.voters) == length p.voters) && (length l == length p.others) && fit c (found nodes p.voters) (found nodes p.voters ++ l)) b in
    (λ h. fitting c nodes p form (sym same ∙ h), λ f. same ∙ fitting_back c nodes p serving' f)
