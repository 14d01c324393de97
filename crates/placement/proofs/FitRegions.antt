use Rattle.std.proofs.Common.{◌≡◌, ◌≢◌, ℕ, ◌+◌, ◌-◌, ◌<◌, ◌≤◌, List, [], ◌∷◌, ◌++◌, length, take, drop, Bool, true, false, cond, not, refl, ap, sym, ◌∙◌, subst, inl, inr, arith, append_assoc}
use Rattle.std.specs.Prelude.{◌⊎◌, max, All, Contains, map, filter, count_by, slice_get, Option, Some, None}
use Rattle.std.specs.List.{cons_option}
use Rattle.std.specs.Str.{bytes_eq}
use Rattle.std.proofs.lemmas.Bool.{cases_lt}
use Rattle.std.proofs.lemmas.Bool.Decides.{nat_tests}
use Rattle.std.proofs.lemmas.List.{append-nil, length-append, length-take, length-drop, take-append-drop, take_all, drop_all}
use Rattle.std.proofs.lemmas.List.Sums.{length-filter, count_by-le-length}
use Rattle.mr_base.specs.declared.nodes.NodeInfo.{NodeInfo}
use Rattle.mr_base.specs.declared.nodes.NodeSet.{NodeSet}
use Rattle.mr_base.specs.Nodes.{IsMember}
use Rattle.region_sql.specs.declared.region_statements.Goal.TheVariants.{Region}
use Rattle.zone_compile.specs.declared.config.ZoneConfig.{ZoneConfig}
use Rattle.placement.specs.declared.placement_types.Placement.{Placement}
use Rattle.placement.specs.Majority.{KeepsMajority, IsLossOf, remains}
use Rattle.placement.specs.Fitting.{Fits, Names, ServeFor, count_in, ids_of}
use Rattle.placement.specs.Placing.{each_at, in_region, other_regions, placed_at, region_voters, regions_lack}
use Rattle.placement.proofs.Lists.{Has, Pairs, all_from_has, all_pairs_from, contains_from_has, count_append, count_both, count_each, count_first, count_none, count_one, has_either, has_filter, has_from_all, has_from_contains, has_left, has_right, no_more, pairs_append, pairs_filter, pairs_from_all, pairs_left, pairs_map, pairs_unmap, pairs_weaker}
use Rattle.placement.proofs.Regions.{Rising, bytes_differ, bytes_same, differ_bytes, in_region_has, has_in_region, length_each_lowest, lowest_has, lowest_second, regions_differ, same_bytes}
use Rattle.placement.proofs.Fit.{Apart, AreOnes, Covers, apart_by, apart_regions, covered_counts, covers_all, first_of_three, has_others, has_take, lost_member, lowest_others, majority_of, not_home, others_has, pairs_take, regions_of, some_item}

abbrev pub region_config : (n : ℕ) (counts voters : List (List ℕ × ℕ)) (home : List ℕ) (global : Bool) → ZoneConfig
region_config n counts voters home global = record { num_replicas = n; num_voters = 5; constraints = counts; voter_constraints = voters; lease = Some home; global_reads = global; goal = Some Region }

-- ---- the parts of the placement

abbrev pub two : (home : List ℕ) → List NodeInfo → List NodeInfo
two home nodes = take 2 (in_region home nodes)

abbrev pub second : (home : List ℕ) → List (List ℕ) → List NodeInfo → List NodeInfo
second home rs nodes = take (3 - length (lowest_others home rs nodes)) (each_at 1 nodes (other_regions home rs))

-- voters and others are the two at home, the lowest of each other region and a second lowest
three_of : {A : Type 0} (a f s : List A) → (a ++ take 3 f ++ take (3 - length f) s) ++ drop 3 f ≡ a ++ (f ++ take (3 - length f) s)
three_of a f s = elim (cases_lt (length f) 3) [
  | inl few ↦ rw (take_all 3 f (omega arith), drop_all 3 f (omega arith)) (simp (append-nil, append_assoc))
  | inr many ↦ (let none : 3 - length f ≡ 0 = omega arith in
      rw none (simp (append-nil, append_assoc) (ap (λ l. a ++ l) (take-append-drop 3 f))))
]

record RegionsTaken (home : List ℕ) (rs : List (List ℕ)) (nodes : List NodeInfo) : Type 0 where
  two : 2 ≤ length (in_region home nodes)
  five : 5 ≤ length (region_voters home (other_regions home rs) nodes)
  regions : 2 ≤ length (other_regions home rs)
  rising : Rising nodes
  distinct : Pairs (λ x y. x ≢ y) rs
  each : (r : List ℕ) → Has rs r → Has (map (λ (t : NodeInfo). t.region) nodes) r

two_in : (home : List ℕ) (nodes : List NodeInfo) (s : NodeInfo) → Has (two home nodes) s → Has nodes s × (s.region ≡ home)
two_in home nodes s h = in_region_has home nodes s (has_take 2 (in_region home nodes) s h)

second_in : (home : List ℕ) (rs : List (List ℕ)) (nodes : List NodeInfo) (s : NodeInfo) → Has (second home rs nodes) s → Has (each_at 1 nodes (other_regions home rs)) s
second_in home rs nodes s h = has_take (3 - length (lowest_others home rs nodes)) (each_at 1 nodes (other_regions home rs)) s h

-- the nodes of other regions that are taken
beside_in : (home : List ℕ) (rs : List (List ℕ)) (nodes : List NodeInfo) (s : NodeInfo) → Has (lowest_others home rs nodes ++ second home rs nodes) s → Has nodes s × (Has rs s.region × (s.region ≢ home))
beside_in home rs nodes s h = elim (has_either (lowest_others home rs nodes) (second home rs nodes) s h)
    [ inl k ↦ not_home home rs 0 nodes s k | inr k ↦ not_home home rs 1 nodes s (second_in home rs nodes s k) ]

apart_two : (home : List ℕ) (nodes : List NodeInfo) → Rising nodes → Pairs Apart (two home nodes)
apart_two home nodes up =
    pairs_weaker (λ s t. s.id.0 < t.id.0) Apart (two home nodes)
    (λ s t h l less e. let same : s.id.0 ≡ t.id.0 = ap (λ n. n.0) e in omega arith)
    (pairs_take (λ s t. s.id.0 < t.id.0) 2 (in_region home nodes) (pairs_filter (λ s t. s.id.0 < t.id.0) (λ t. bytes_eq t.region home) nodes up))

apart_all : (home : List ℕ) (rs : List (List ℕ)) (nodes : List NodeInfo) → Rising nodes → Pairs (λ x y. x ≢ y) rs → Pairs Apart (two home nodes ++ (lowest_others home rs nodes ++ second home rs nodes))
apart_all home rs nodes up distinct =
    pairs_append Apart (two home nodes) (lowest_others home rs nodes ++ second home rs nodes)
    (apart_two home nodes up)
    (pairs_append Apart (lowest_others home rs nodes) (second home rs nodes)
    (apart_regions 0 home rs nodes up distinct)
    (pairs_take Apart (3 - length (lowest_others home rs nodes)) (each_at 1 nodes (other_regions home rs)) (apart_regions 1 home rs nodes up distinct))
    (λ f s h l. lowest_second nodes (other_regions home rs) f s up h (second_in home rs nodes s l)))
    (λ s t h l. let at = two_in home nodes s h in let other = beside_in home rs nodes t l in
    apart_by (λ (x : NodeInfo). x.region) nodes s t up at.0 other.0 (λ e. other.1.1 (sym e ∙ at.1)))

lengths : (home : List ℕ) (rs : List (List ℕ)) (nodes : List NodeInfo) → RegionsTaken home rs nodes → (length (region_voters home (other_regions home rs) nodes) ≡ 5) × (length (lowest_others home rs nodes) ≡ length (other_regions home rs)) × (length (two home nodes) ≡ 2) × (length (second home rs nodes) ≤ 1)
lengths home rs nodes t =
    let f = lowest_others home rs nodes in let s = each_at 1 nodes (other_regions home rs) in
    let others : length f ≡ length (other_regions home rs) = length_each_lowest nodes (other_regions home rs) (λ r h. t.each r (others_has home rs r h).0) in
    let a = length-append (two home nodes ++ take 3 f) (take (3 - length f) s) in let b = length-append (two home nodes) (take 3 f) in
    let x = length-take 2 (in_region home nodes) in let y = length-take 3 f in let z = length-take (3 - length f) s in
    let h = t.two in let g = t.five in let k = t.regions in
    (omega arith, others, omega arith, omega arith)

-- ---- a region's loss, and its voters

count_of_three : (p : NodeInfo → Bool) (a b c : List NodeInfo) → count_by p (a ++ b ++ c) ≡ count_by p a + count_by p b + count_by p c
count_of_three p a b c = count_append p (a ++ b) c ∙ ap (λ n. n + count_by p c) (count_append p a b)

cond_fewer : (a b : Bool) → (a ≡ true → b ≡ true) → cond a 1 0 ≤ cond b 1 0
cond_fewer true b h = rw (h refl) (omega arith)
cond_fewer false b h = omega arith

pub count_fewer : (p q : NodeInfo → Bool) (xs : List NodeInfo) → ((s : NodeInfo) → Has xs s → p s ≡ true → q s ≡ true) → count_by p xs ≤ count_by q xs
count_fewer p q [] h = omega arith
count_fewer p q (x ∷ xs) h =
    let rest = count_fewer p q xs (λ s k. h s (inr k)) in let a = count_first p x xs in let b = count_first q x xs in
    let here = cond_fewer (p x) (q x) (h x (inl refl)) in omega arith

at_home_two : (home : List ℕ) (rs : List (List ℕ)) (nodes : List NodeInfo) (region : List ℕ) → RegionsTaken home rs nodes → region ≡ home → count_in region (region_voters home (other_regions home rs) nodes) ≤ 2
at_home_two home rs nodes region t e =
    let test : NodeInfo → Bool = λ s. bytes_eq s.region region in
    let a = two home nodes in let f = lowest_others home rs nodes in let d = second home rs nodes in
    let sum = count_of_three test a (take 3 f) d in
    let none_b : count_by test (take 3 f) ≡ 0 = count_none test (take 3 f) (λ s h. bytes_differ s.region region (λ same. (not_home home rs 0 nodes s (has_take 3 f s h)).1.1 (same ∙ e))) in
    let none_d : count_by test d ≡ 0 = count_none test d (λ s h. bytes_differ s.region region (λ same. (not_home home rs 1 nodes s (second_in home rs nodes s h)).1.1 (same ∙ e))) in
    let bound = count_by-le-length test a in let sizes = lengths home rs nodes t in let size : length a ≡ 2 = sizes.2 in
    omega arith

elsewhere_two : (home : List ℕ) (rs : List (List ℕ)) (nodes : List NodeInfo) (region : List ℕ) → RegionsTaken home rs nodes → region ≢ home → count_in region (region_voters home (other_regions home rs) nodes) ≤ 2
elsewhere_two home rs nodes region t ne =
    let test : NodeInfo → Bool = λ s. bytes_eq s.region region in
    let a = two home nodes in let f = lowest_others home rs nodes in let d = second home rs nodes in
    let sum = count_of_three test a (take 3 f) d in
    let none_a : count_by test a ≡ 0 = count_none test a (λ s h. bytes_differ s.region region (λ same. ne (sym same ∙ (two_in home nodes s h).1))) in
    let one_b : count_by test (take 3 f) ≤ 1 = count_one test (take 3 f)
    (pairs_weaker (λ x y. x.region ≢ y.region) (λ x y. test x ≡ true → test y ≡ true → ⊥) (take 3 f)
    (λ x y h l differ p q. differ (same_bytes x.region region p ∙ sym (same_bytes y.region region q)))
    (pairs_take (λ x y. x.region ≢ y.region) 3 f (regions_differ 0 nodes (other_regions home rs) (pairs_filter (λ x y. x ≢ y) (λ x. not (bytes_eq x home)) rs t.distinct)))) in
    let bound = count_by-le-length test d in let sizes = lengths home rs nodes t in let size : length d ≤ 1 = sizes.3 in
    omega arith

at_most_two : (home : List ℕ) (rs : List (List ℕ)) (nodes : List NodeInfo) → RegionsTaken home rs nodes → (region : List ℕ) → count_in region (region_voters home (other_regions home rs) nodes) ≤ 2
at_most_two home rs nodes t region = go (bytes_eq region home) refl where
  go : (same : Bool) → bytes_eq region home ≡ same → count_in region (region_voters home (other_regions home rs) nodes) ≤ 2
  go true e = at_home_two home rs nodes region t (same_bytes region home e)
  go false e = elsewhere_two home rs nodes region t (λ same. let yes = bytes_same region home same in cc)

two_at : (home : List ℕ) (rs : List (List ℕ)) (nodes : List NodeInfo) → RegionsTaken home rs nodes → 2 ≤ count_in home (region_voters home (other_regions home rs) nodes)
two_at home rs nodes t =
    let test : NodeInfo → Bool = λ s. bytes_eq s.region home in
    let a = two home nodes in let f = lowest_others home rs nodes in let d = second home rs nodes in
    let sum = count_of_three test a (take 3 f) d in
    let all : count_by test a ≡ length a = count_each test a (λ s h. bytes_same s.region home (two_in home nodes s h).1) in
    let sizes = lengths home rs nodes t in let size : length a ≡ 2 = sizes.2 in
    omega arith

voters_in : (home : List ℕ) (rs : List (List ℕ)) (nodes : List NodeInfo) (s : NodeInfo) → Has (region_voters home (other_regions home rs) nodes) s → Has nodes s
voters_in home rs nodes s h = elim (has_either (two home nodes ++ take 3 (lowest_others home rs nodes)) (second home rs nodes) s h) [
  | inl k ↦ elim (has_either (two home nodes) (take 3 (lowest_others home rs nodes)) s k)
      [ inl m ↦ (two_in home nodes s m).0 | inr m ↦ (not_home home rs 0 nodes s (has_take 3 (lowest_others home rs nodes) s m)).0 ]
  | inr k ↦ (not_home home rs 1 nodes s (second_in home rs nodes s k)).0
]

region_survives : (home : List ℕ) (rs : List (List ℕ)) (nodes : List NodeInfo) (lost : NodeSet) → RegionsTaken home rs nodes → IsLossOf (Some Region) nodes lost → KeepsMajority (ids_of (region_voters home (other_regions home rs) nodes)) lost
region_survives home rs nodes lost t loss =
    let at = region_voters home (other_regions home rs) nodes in
    let lies : (s : NodeInfo) → Has nodes s → IsMember lost s.id → s.region ≡ loss.0 = has_from_all (λ s. IsMember lost s.id → s.region ≡ loss.0) nodes loss.1 in
    let bound = at_most_two home rs nodes t loss.0 in
    let sizes = lengths home rs nodes t in let five : length at ≡ 5 = sizes.0 in
    let fewer = count_fewer (λ s. not (remains lost s.id)) (λ s. bytes_eq s.region loss.0) at (λ s h e. bytes_same s.region loss.0 (lies s (voters_in home rs nodes s h) (lost_member lost s.id e))) in
    majority_of at lost 2 (omega arith) (omega arith)

shape : (home : List ℕ) (rs : List (List ℕ)) (nodes : List NodeInfo) → region_voters home (other_regions home rs) nodes ++ drop 3 (lowest_others home rs nodes) ≡ two home nodes ++ (lowest_others home rs nodes ++ second home rs nodes)
shape home rs nodes = three_of (two home nodes) (lowest_others home rs nodes) (each_at 1 nodes (other_regions home rs))

taken_in : (home : List ℕ) (rs : List (List ℕ)) (nodes : List NodeInfo) (s : NodeInfo) → Has (two home nodes ++ (lowest_others home rs nodes ++ second home rs nodes)) s → Has nodes s × ((s.region ≡ home) ⊎ Has rs s.region)
taken_in home rs nodes s h = elim (has_either (two home nodes) (lowest_others home rs nodes ++ second home rs nodes) s h)
    [ inl k ↦ (let at = two_in home nodes s k in (at.0, inl at.1)) | inr k ↦ (let at = beside_in home rs nodes s k in (at.0, inr at.1.0)) ]

taken_covers : (home : List ℕ) (rs : List (List ℕ)) (nodes : List NodeInfo) → RegionsTaken home rs nodes → Covers (two home nodes ++ (lowest_others home rs nodes ++ second home rs nodes)) rs
taken_covers home rs nodes t =
    let sizes = lengths home rs nodes t in let size : length (two home nodes) ≡ 2 = sizes.2 in
    let first = some_item (two home nodes) (omega arith) in
    let rest = lowest_others home rs nodes ++ second home rs nodes in
    covers_all home rs (two home nodes) rest nodes first.0 first.1 (two_in home nodes first.0 first.1).1
    (λ r h. let found = lowest_has nodes (other_regions home rs) r h (t.each r (others_has home rs r h).0) in
    (found.0, has_right (two home nodes) rest found.0 (has_left (lowest_others home rs nodes) (second home rs nodes) found.0 found.1), found.2))

enough_regions : (home : List ℕ) (rs : List (List ℕ)) (nodes : List NodeInfo) → regions_lack home rs nodes ≡ None → (2 ≤ length (in_region home nodes)) × (5 ≤ length (region_voters home (other_regions home rs) nodes))
enough_regions home rs nodes h = (grind (arith, nat_tests), grind (arith, nat_tests))

pub region_fits : (n : ℕ) (counts voters : List (List ℕ × ℕ)) (home : List ℕ) (global : Bool) (nodes : List NodeInfo) → AreOnes counts → Pairs (λ x y. x ≢ y) (regions_of counts) → 2 ≤ length (other_regions home (regions_of counts)) → n ≡ max 5 (2 + length (other_regions home (regions_of counts))) → ServeFor (region_config n counts voters home global) nodes → regions_lack home (regions_of counts) nodes ≡ None → Fits (region_config n counts voters home global) nodes (placed_at (Some home) (Some Region) (regions_of counts) nodes)
region_fits n counts voters home global nodes ones distinct many size serve enough =
    let c = region_config n counts voters home global in
    let rs = regions_of counts in
    let has = enough_regions home rs nodes enough in
    let up : Rising nodes = pairs_from_all (λ s t. s.id.0 < t.id.0) nodes serve.rising in
    let t : RegionsTaken home rs nodes = record { two = has.0; five = has.1; regions = many; rising = up; distinct = distinct; each = λ r h. has_from_contains (map (λ (t : NodeInfo). t.region) nodes) r (serve.each r (inr (contains_from_has rs r h))) } in
    let at = region_voters home (other_regions home rs) nodes in let beside = drop 3 (lowest_others home rs nodes) in
    let all = two home nodes ++ (lowest_others home rs nodes ++ second home rs nodes) in
    let same : at ++ beside ≡ all = shape home rs nodes in
    let sizes = lengths home rs nodes t in let five : length at ≡ 5 = sizes.0 in let lowest : length (lowest_others home rs nodes) ≡ length (other_regions home rs) = sizes.1 in let first : length (two home nodes) ≡ 2 = sizes.2 in
    let rest : length beside ≡ length (lowest_others home rs nodes) - 3 = length-drop 3 (lowest_others home rs nodes) in
    let Known : List NodeInfo → Type 0 = λ l. All (Contains nodes) l in
    let Differ : List NodeInfo → Type 0 = λ l. Pairs Apart l in
    let Within : List NodeInfo → Type 0 = λ l. All (λ s. Names c s.region) l in
    let Counted : List NodeInfo → Type 0 = λ l. All (λ k. k.1 ≤ count_in k.0 l) counts in
    record {
      at = at;
      beside = beside;
      named = refl;
      named_others = refl;
      known = subst Known (sym same) (all_from_has (Contains nodes) all (λ s h. contains_from_has nodes s (taken_in home rs nodes s h).0));
      distinct = all_pairs_from (λ x y. x ≢ y) (ids_of (at ++ beside)) (pairs_map (λ x y. x ≢ y) (λ (s : NodeInfo). s.id) (at ++ beside) (subst Differ (sym same) (apart_all home rs nodes up distinct)));
      replicas = length-append at beside ∙ (omega arith);
      voters = five;
      within = λ _. subst Within (sym same) (all_from_has (λ s. Names c s.region) all (λ s h. elim (taken_in home rs nodes s h).1 [ inl e ↦ inl (ap Some (sym e)) | inr k ↦ inr (contains_from_has rs s.region k) ]));
      constrained = subst Counted (sym same) (covered_counts counts all ones (taken_covers home rs nodes t));
      all_at_home = λ e. absurd (cc);
      zones_apart = λ e. absurd (cc);
      two_at_home = λ _. two_at home rs nodes t;
      two_at_most = λ _ region. at_most_two home rs nodes t region;
      first_at_home = first_of_three (λ s. s.region ≡ home) (two home nodes) (take 3 (lowest_others home rs nodes)) (second home rs nodes) (omega arith) (λ s h. (two_in home nodes s h).1);
      survives = λ lost loss. region_survives home rs nodes lost t loss;
    }

-- ---- where no placement fits

-- where no region has a second node, a node of one of them is its lowest
none_second : {A : Type 0} (xs : List A) (rest : List A) (x : A) → cons_option (slice_get xs 1) rest ≡ [] → Has xs x → slice_get xs 0 ≡ Some x
none_second [] rest x e h = absurd h
none_second (y ∷ []) rest x e (inl s) = ap Some s
none_second (y ∷ []) rest x e (inr k) = absurd k
none_second (y ∷ z ∷ xs) rest x e h = absurd (cc)

rest_empty : {A : Type 0} (o : Option A) (rest : List A) → cons_option o rest ≡ [] → rest ≡ []
rest_empty None rest e = e
rest_empty (Some x) rest e = absurd (cc)

first_option : {A : Type 0} (o : Option A) (xs : List A) (x : A) → o ≡ Some x → Has (cons_option o xs) x
first_option None xs x e = absurd (cc)
first_option (Some y) xs x e = inl cc

later_option : {A : Type 0} (o : Option A) (xs : List A) (x : A) → Has xs x → Has (cons_option o xs) x
later_option None xs x h = h
later_option (Some y) xs x h = inr h

only_lowest : (nodes : List NodeInfo) (rs : List (List ℕ)) (s : NodeInfo) → each_at 1 nodes rs ≡ [] → Has rs s.region → Has nodes s → Has (each_at 0 nodes rs) s
only_lowest nodes [] s e h k = absurd h
only_lowest nodes (r ∷ rs) s e (inl same) k =
    first_option (slice_get (in_region r nodes) 0) (each_at 0 nodes rs) s (none_second (in_region r nodes) (each_at 1 nodes rs) s e (has_in_region r nodes s k (sym same)))
only_lowest nodes (r ∷ rs) s e (inr h) k =
    later_option (slice_get (in_region r nodes) 0) (each_at 0 nodes rs) s (only_lowest nodes rs s (rest_empty (slice_get (in_region r nodes) 1) (each_at 1 nodes rs) e) h k)

empty_list : {A : Type 0} (xs : List A) → length xs ≡ 0 → xs ≡ []
empty_list [] e = refl
empty_list (x ∷ xs) e = absurd (omega arith)

few_voters : (home : List ℕ) (rs : List (List ℕ)) (nodes : List NodeInfo) (w f : ℕ) → 2 ≤ length (in_region home nodes) → regions_lack home rs nodes ≡ Some (w, f) → length (region_voters home (other_regions home rs) nodes) < 5
few_voters home rs nodes w f two h = grind (arith, nat_tests)

-- with fewer than five voters there are two other regions, and neither has a second node
no_second : (home : List ℕ) (rs : List (List ℕ)) (nodes : List NodeInfo) → 2 ≤ length (in_region home nodes) → 2 ≤ length (other_regions home rs) → ((r : List ℕ) → Has rs r → Has (map (λ (t : NodeInfo). t.region) nodes) r) → length (region_voters home (other_regions home rs) nodes) < 5 → (length (lowest_others home rs nodes) ≡ 2) × (each_at 1 nodes (other_regions home rs) ≡ [])
no_second home rs nodes enough many each short =
    let f = lowest_others home rs nodes in let s = each_at 1 nodes (other_regions home rs) in
    let others : length f ≡ length (other_regions home rs) = length_each_lowest nodes (other_regions home rs) (λ r h. each r (others_has home rs r h).0) in
    let a = length-append (two home nodes ++ take 3 f) (take (3 - length f) s) in let b = length-append (two home nodes) (take 3 f) in
    let x = length-take 2 (in_region home nodes) in let y = length-take 3 f in let z = length-take (3 - length f) s in
    (omega arith, empty_list s (omega arith))

pub region_none : (n : ℕ) (counts voters : List (List ℕ × ℕ)) (home : List ℕ) (global : Bool) (nodes : List NodeInfo) (w f : ℕ) → 2 ≤ length (other_regions home (regions_of counts)) → ServeFor (region_config n counts voters home global) nodes → regions_lack home (regions_of counts) nodes ≡ Some (w, f) → (p : Placement) → Fits (region_config n counts voters home global) nodes p → ⊥
region_none n counts voters home global nodes w f many serve lack p fits =
    let c = region_config n counts voters home global in let rs = regions_of counts in
    let test : NodeInfo → Bool = λ s. bytes_eq s.region home in let other : NodeInfo → Bool = λ s. not (bytes_eq s.region home) in
    let in_nodes : (s : NodeInfo) → Has fits.at s → Has nodes s = λ s h. has_from_contains nodes s (has_from_all (Contains nodes) (fits.at ++ fits.beside) fits.known s (has_left fits.at fits.beside s h)) in
    let ids : Pairs (λ x y. x ≢ y) (ids_of (fits.at ++ fits.beside)) = pairs_from_all (λ x y. x ≢ y) (ids_of (fits.at ++ fits.beside)) fits.distinct in
    let apart : Pairs (λ x y. x ≢ y) fits.at = pairs_weaker Apart (λ x y. x ≢ y) fits.at (λ s t h l ne e. ne (ap (λ (x : NodeInfo). x.id) e)) (pairs_left Apart fits.at fits.beside (pairs_unmap (λ x y. x ≢ y) (λ (s : NodeInfo). s.id) (fits.at ++ fits.beside) ids)) in
    let at_home = no_more (filter test fits.at) (in_region home nodes) (pairs_filter (λ x y. x ≢ y) test fits.at apart)
    (λ s h. let found = has_filter test fits.at s h in has_in_region home nodes s (in_nodes s found.0) (same_bytes s.region home found.1)) in
    let home_count = length-filter test fits.at in let away_count = length-filter other fits.at in
    let five : length fits.at ≡ 5 = fits.voters in
    let two : 2 ≤ count_in home fits.at = fits.two_at_home refl in
    let most : count_in home fits.at ≤ 2 = fits.two_at_most refl home in
    let both = count_both test other fits.at (λ s h e. ap not e) in
    elim (cases_lt (length (in_region home nodes)) 2) [
      | inl few ↦ omega arith
      | inr enough ↦
          (let short = few_voters home rs nodes w f enough lack in
          let each : (r : List ℕ) → Has rs r → Has (map (λ (t : NodeInfo). t.region) nodes) r = λ r h. has_from_contains (map (λ (t : NodeInfo). t.region) nodes) r (serve.each r (inr (contains_from_has rs r h))) in
          let sizes = no_second home rs nodes enough many each short in
          let away = no_more (filter other fits.at) (lowest_others home rs nodes) (pairs_filter (λ x y. x ≢ y) other fits.at apart)
          (λ s h. let found = has_filter other fits.at s h in
          let ne = differ_bytes s.region home found.1 in
          let named = has_from_all (λ x. Names c x.region) (fits.at ++ fits.beside) (fits.within (λ e. cc)) s (has_left fits.at fits.beside s found.0) in
          only_lowest nodes (other_regions home rs) s sizes.1 (has_others home rs s.region (elim named [ inl e ↦ absurd (ne (cc)) | inr k ↦ has_from_contains rs s.region k ]) ne) (in_nodes s found.0)) in
          let lowest : length (lowest_others home rs nodes) ≡ 2 = sizes.0 in
          omega arith)
    ]
