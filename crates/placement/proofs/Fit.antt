use Rattle.std.proofs.Common.{◌≡◌, ◌≢◌, ℕ, ◌+◌, ◌*◌, ◌-◌, ◌<◌, ◌≤◌, List, [], ◌∷◌, ◌++◌, length, take, drop, Bool, true, false, cond, not, refl, ap, sym, ◌∙◌, subst, inl, inr, arith}
use Rattle.std.specs.Prelude.{All, Contains, IsSomeAnd, map, count_by, bit_and, ◌==◌, ◌^◌, slice_get, Some, None}
use Rattle.std.specs.Str.{bytes_eq}
use Rattle.std.proofs.lemmas.Bool.{eq-eqb}
use Rattle.std.proofs.lemmas.Bool.Decides.{nat_tests}
use Rattle.std.proofs.lemmas.List.{length-append, length-map, length-take, take-append-drop}
use Rattle.mr_base.specs.declared.ids.NodeId.{NodeId}
use Rattle.mr_base.specs.declared.nodes.NodeInfo.{NodeInfo}
use Rattle.mr_base.specs.declared.nodes.NodeSet.{NodeSet}
use Rattle.mr_base.specs.Nodes.{IsMember}
use Rattle.region_sql.specs.declared.region_statements.Goal.TheVariants.{Zone}
use Rattle.zone_compile.specs.declared.config.ZoneConfig.{ZoneConfig}
use Rattle.placement.specs.declared.placement_types.Placement.{Placement}
use Rattle.placement.specs.Majority.{KeepsMajority, IsLossOf, remains}
use Rattle.placement.specs.Fitting.{Fits, Names, SameZone, ServeFor, count_in, ids_of}
use Rattle.placement.specs.Placing.{each_at, in_region, one_per_zone, other_regions, placed_at, zone_voters, zones_lack}
use Rattle.placement.proofs.Lists.{Has, Pairs, all_from_has, all_pairs_from, contains_from_has, count_both, count_first, count_has, count_one, filter_has, has_either, has_filter, has_from_all, has_from_contains, has_left, has_map, has_right, map_has, no_more, pairs_append, pairs_filter, pairs_from_all, pairs_left, pairs_map, pairs_weaker}
use Rattle.placement.proofs.Regions.{Rising, bytes_differ, bytes_same, differ_bytes, each_at_in, each_zone, has_in_region, in_region_has, length_each_lowest, lowest_has, regions_differ, same_bytes, same_node, zone_has, zones_differ}

-- ---- lists

pub has_take : {A : Type 0} (n : ℕ) (xs : List A) (x : A) → Has (take n xs) x → Has xs x
has_take {A} n xs x h = let P : List A → Type 0 = λ l. Has l x in subst P (take-append-drop n xs) (has_left (take n xs) (drop n xs) x h)

pub has_drop : {A : Type 0} (n : ℕ) (xs : List A) (x : A) → Has (drop n xs) x → Has xs x
has_drop {A} n xs x h = let P : List A → Type 0 = λ l. Has l x in subst P (take-append-drop n xs) (has_right (take n xs) (drop n xs) x h)

pub pairs_take : {A : Type 0} (R : A → A → Type 0) (n : ℕ) (xs : List A) → Pairs R xs → Pairs R (take n xs)
pairs_take {A} R n xs h = let P : List A → Type 0 = λ l. Pairs R l in pairs_left R (take n xs) (drop n xs) (subst P (sym (take-append-drop n xs)) h)

first_and : {A : Type 0} (P : A → Type 0) (xs : List A) → 1 ≤ length xs → ((x : A) → Has xs x → P x) → IsSomeAnd (slice_get xs 0) P
first_and P [] h f = absurd (omega arith)
first_and P (x ∷ xs) h f = f x (inl refl)

pub first_of_three : {A : Type 0} (P : A → Type 0) (xs ys zs : List A) → 1 ≤ length xs → ((x : A) → Has xs x → P x) → IsSomeAnd (slice_get (xs ++ ys ++ zs) 0) P
first_of_three P [] ys zs h f = absurd (omega arith)
first_of_three P (x ∷ xs) ys zs h f = f x (inl refl)

pub some_item : {A : Type 0} (xs : List A) → 1 ≤ length xs → (x : A) × Has xs x
some_item [] h = absurd (omega arith)
some_item (x ∷ xs) h = (x, inl refl)

count_ids : (p : NodeId → Bool) (xs : List NodeInfo) → count_by p (ids_of xs) ≡ count_by (λ s. p s.id) xs
count_ids p [] = refl
count_ids p (x ∷ xs) = count_first p x.id (ids_of xs) ∙ ap (λ n. cond (p x.id) 1 0 + n) (count_ids p xs) ∙ sym (count_first (λ s. p s.id) x xs)

-- ---- nodes

-- nodes whose numbers differ
abbrev pub Apart : NodeInfo → NodeInfo → Type 0
Apart s t = s.id ≢ t.id

pub apart_by : {A : Type 0} (f : NodeInfo → A) (nodes : List NodeInfo) (s t : NodeInfo) → Rising nodes → Has nodes s → Has nodes t → f s ≢ f t → Apart s t
apart_by f nodes s t up h k ne e = ne (ap f (same_node nodes s t up h k e))

pub lost_member : (lost : NodeSet) (n : NodeId) → not (remains lost n) ≡ true → IsMember lost n
lost_member lost n h e = let zero_there : (bit_and lost.0 (2 ^ (n.0 - 1)) == 0) ≡ true = eq-eqb (bit_and lost.0 (2 ^ (n.0 - 1))) 0 e in let no : not (remains lost n) ≡ false = ap not zero_there in cc

not_false : (b : Bool) → b ≡ false → not b ≡ true
not_false b e = ap not e

-- where at most n of the voters are lost, and more than twice as many there are, more than half remain
pub majority_of : (at : List NodeInfo) (lost : NodeSet) (n : ℕ) → 2 * n < length at → count_by (λ s. not (remains lost s.id)) at ≤ n → KeepsMajority (ids_of at) lost
majority_of at lost n many few =
    let all = count_both (λ s. remains lost s.id) (λ s. not (remains lost s.id)) at (λ s h e. not_false (remains lost s.id) e) in
    let same = count_ids (remains lost) at in
    let size : length (ids_of at) ≡ length at = length-map at (λ s. s.id) in
    omega arith

-- regions other than home
pub others_has : (home : List ℕ) (rs : List (List ℕ)) (r : List ℕ) → Has (other_regions home rs) r → Has rs r × (r ≢ home)
others_has home rs r h = let found = has_filter (λ x. not (bytes_eq x home)) rs r h in (found.0, differ_bytes r home found.1)

pub has_others : (home : List ℕ) (rs : List (List ℕ)) (r : List ℕ) → Has rs r → r ≢ home → Has (other_regions home rs) r
has_others home rs r h ne = filter_has (λ x. not (bytes_eq x home)) rs r h (ap not (bytes_differ r home ne))

pub not_home : (home : List ℕ) (rs : List (List ℕ)) (k : ℕ) (nodes : List NodeInfo) (s : NodeInfo) → Has (each_at k nodes (other_regions home rs)) s → Has nodes s × (Has rs s.region × (s.region ≢ home))
not_home home rs k nodes s h = let found = each_at_in k nodes (other_regions home rs) s h in (found.0, others_has home rs s.region found.1)

-- ---- zone survival

abbrev pub zone_config : (n : ℕ) (counts voters : List (List ℕ × ℕ)) (home : List ℕ) (global : Bool) → ZoneConfig
zone_config n counts voters home global = record { num_replicas = n; num_voters = 3; constraints = counts; voter_constraints = voters; lease = Some home; global_reads = global; goal = Some Zone }

abbrev pub regions_of : List (List ℕ × ℕ) → List (List ℕ)
regions_of counts = map (λ k. k.0) counts

abbrev pub AreOnes : List (List ℕ × ℕ) → Type 0
AreOnes counts = (k : List ℕ × ℕ) → Has counts k → k.1 ≡ 1

enough_zones : (home : List ℕ) (nodes : List NodeInfo) → zones_lack home nodes ≡ None → 3 ≤ length (one_per_zone (in_region home nodes))
enough_zones home nodes h = grind (arith, nat_tests)

-- each constrained region is covered by one of the nodes
abbrev pub Covers : List NodeInfo → List (List ℕ) → Type 0
Covers nodes rs = (r : List ℕ) → Has rs r → (s : NodeInfo) × Has nodes s × (s.region ≡ r)

pub covered_counts : (counts : List (List ℕ × ℕ)) (nodes : List NodeInfo) → AreOnes counts → Covers nodes (regions_of counts) → All (λ k. k.1 ≤ count_in k.0 nodes) counts
covered_counts counts nodes ones covers =
    all_from_has (λ k. k.1 ≤ count_in k.0 nodes) counts
    (λ k h. let found = covers k.0 (has_map (λ (j : List ℕ × ℕ). j.0) counts k h) in
    let some = count_has (λ s. bytes_eq s.region k.0) nodes found.0 found.1 (bytes_same found.0.region k.0 found.2) in
    let one = ones k h in omega arith)

pub covers_all : (home : List ℕ) (rs : List (List ℕ)) (at beside nodes : List NodeInfo) (h : NodeInfo) → Has at h → h.region ≡ home → ((r : List ℕ) → Has (other_regions home rs) r → (s : NodeInfo) × Has (at ++ beside) s × (s.region ≡ r)) → Covers (at ++ beside) rs
covers_all home rs at beside nodes h hh eh others r hr = go (bytes_eq r home) refl where
  go : (b : Bool) → bytes_eq r home ≡ b → (s : NodeInfo) × Has (at ++ beside) s × (s.region ≡ r)
  go true e = (h, has_left at beside h hh, eh ∙ sym (same_bytes r home e))
  go false e = others r (filter_has (λ x. not (bytes_eq x home)) rs r hr (ap not e))

-- the nodes that zone survival takes
record ZonesTaken (home : List ℕ) (rs : List (List ℕ)) (nodes : List NodeInfo) : Type 0 where
  many : 3 ≤ length (one_per_zone (in_region home nodes))
  rising : Rising nodes
  distinct : Pairs (λ x y. x ≢ y) rs
  each : (r : List ℕ) → Has rs r → Has (map (λ (t : NodeInfo). t.region) nodes) r

zone_voter : (home : List ℕ) (nodes : List NodeInfo) (s : NodeInfo) → Has (zone_voters home nodes) s → Has nodes s × (s.region ≡ home)
zone_voter home nodes s h = in_region_has home nodes s (zone_has (in_region home nodes) s (has_take 3 (one_per_zone (in_region home nodes)) s h))

zone_voters_differ : (home : List ℕ) (nodes : List NodeInfo) → Pairs (λ s t. s.zone ≢ t.zone) (zone_voters home nodes)
zone_voters_differ home nodes = pairs_take (λ s t. s.zone ≢ t.zone) 3 (one_per_zone (in_region home nodes)) (zones_differ (in_region home nodes))

length_zone_voters : (home : List ℕ) (nodes : List NodeInfo) → 3 ≤ length (one_per_zone (in_region home nodes)) → length (zone_voters home nodes) ≡ 3
length_zone_voters home nodes h = let size = length-take 3 (one_per_zone (in_region home nodes)) in omega arith

abbrev pub lowest_others : (home : List ℕ) → List (List ℕ) → List NodeInfo → List NodeInfo
lowest_others home rs nodes = each_at 0 nodes (other_regions home rs)

pub apart_regions : (k : ℕ) (home : List ℕ) (rs : List (List ℕ)) (nodes : List NodeInfo) → Rising nodes → Pairs (λ x y. x ≢ y) rs → Pairs Apart (each_at k nodes (other_regions home rs))
apart_regions k home rs nodes up distinct =
    pairs_weaker (λ s t. s.region ≢ t.region) Apart (each_at k nodes (other_regions home rs))
    (λ s t h l ne. apart_by (λ (x : NodeInfo). x.region) nodes s t up (not_home home rs k nodes s h).0 (not_home home rs k nodes t l).0 ne)
    (regions_differ k nodes (other_regions home rs) (pairs_filter (λ x y. x ≢ y) (λ x. not (bytes_eq x home)) rs distinct))

apart_zones : (home : List ℕ) (rs : List (List ℕ)) (nodes : List NodeInfo) → ZonesTaken home rs nodes → Pairs Apart (zone_voters home nodes ++ lowest_others home rs nodes)
apart_zones home rs nodes z =
    pairs_append Apart (zone_voters home nodes) (lowest_others home rs nodes)
    (pairs_weaker (λ s t. s.zone ≢ t.zone) Apart (zone_voters home nodes)
    (λ s t h l ne. apart_by (λ (x : NodeInfo). x.zone) nodes s t z.rising (zone_voter home nodes s h).0 (zone_voter home nodes t l).0 ne)
    (zone_voters_differ home nodes))
    (apart_regions 0 home rs nodes z.rising z.distinct)
    (λ s t h l. let at = zone_voter home nodes s h in let beside = not_home home rs 0 nodes t l in
    apart_by (λ (x : NodeInfo). x.region) nodes s t z.rising at.0 beside.0 (λ e. beside.1.1 (sym e ∙ at.1)))

-- at most one voter is lost with a zone
zone_survives : (home : List ℕ) (nodes : List NodeInfo) (lost : NodeSet) → 3 ≤ length (one_per_zone (in_region home nodes)) → IsLossOf (Some Zone) nodes lost → KeepsMajority (ids_of (zone_voters home nodes)) lost
zone_survives home nodes lost many loss =
    let three = length_zone_voters home nodes many in
    let lies : (s : NodeInfo) → Has nodes s → (IsMember lost s.id → (s.region ≡ loss.0) × (s.zone ≡ loss.1)) = has_from_all (λ s. IsMember lost s.id → (s.region ≡ loss.0) × (s.zone ≡ loss.1)) nodes loss.2 in
    let at = zone_voters home nodes in
    majority_of at lost 1 (omega arith)
    (count_one (λ s. not (remains lost s.id)) at
    (pairs_weaker (λ s t. s.zone ≢ t.zone) (λ s t. not (remains lost s.id) ≡ true → not (remains lost t.id) ≡ true → ⊥) at
    (λ s t h l ne a b. ne ((lies s (zone_voter home nodes s h).0 (lost_member lost s.id a)).1 ∙ sym (lies t (zone_voter home nodes t l).0 (lost_member lost t.id b)).1))
    (zone_voters_differ home nodes)))

zone_covers : (home : List ℕ) (rs : List (List ℕ)) (nodes : List NodeInfo) → ZonesTaken home rs nodes → Covers (zone_voters home nodes ++ lowest_others home rs nodes) rs
zone_covers home rs nodes z =
    let three = length_zone_voters home nodes z.many in
    let first = some_item (zone_voters home nodes) (omega arith) in
    covers_all home rs (zone_voters home nodes) (lowest_others home rs nodes) nodes first.0 first.1 (zone_voter home nodes first.0 first.1).1
    (λ r h. let found = lowest_has nodes (other_regions home rs) r h (z.each r (others_has home rs r h).0) in
    (found.0, has_right (zone_voters home nodes) (lowest_others home rs nodes) found.0 found.1, found.2))

pub zone_fits : (n : ℕ) (counts voters : List (List ℕ × ℕ)) (home : List ℕ) (global : Bool) (nodes : List NodeInfo) → AreOnes counts → Pairs (λ x y. x ≢ y) (regions_of counts) → n ≡ 3 + length (other_regions home (regions_of counts)) → ServeFor (zone_config n counts voters home global) nodes → zones_lack home nodes ≡ None → Fits (zone_config n counts voters home global) nodes (placed_at (Some home) (Some Zone) (regions_of counts) nodes)
zone_fits n counts voters home global nodes ones distinct size serve enough =
    let c = zone_config n counts voters home global in
    let rs = regions_of counts in
    let many = enough_zones home nodes enough in
    let up : Rising nodes = pairs_from_all (λ s t. s.id.0 < t.id.0) nodes serve.rising in
    let z : ZonesTaken home rs nodes = record { many = many; rising = up; distinct = distinct; each = λ r h. has_from_contains (map (λ (t : NodeInfo). t.region) nodes) r (serve.each r (inr (contains_from_has rs r h))) } in
    let at = zone_voters home nodes in let beside = lowest_others home rs nodes in
    let three = length_zone_voters home nodes many in
    let others : length beside ≡ length (other_regions home rs) = length_each_lowest nodes (other_regions home rs) (λ r h. z.each r (others_has home rs r h).0) in
    record {
      at = at;
      beside = beside;
      named = refl;
      named_others = refl;
      known = all_from_has (Contains nodes) (at ++ beside) (λ s h. contains_from_has nodes s (elim (has_either at beside s h) [ inl k ↦ (zone_voter home nodes s k).0 | inr k ↦ (not_home home rs 0 nodes s k).0 ]));
      distinct = all_pairs_from (λ x y. x ≢ y) (ids_of (at ++ beside)) (pairs_map (λ x y. x ≢ y) (λ (s : NodeInfo). s.id) (at ++ beside) (apart_zones home rs nodes z));
      replicas = length-append at beside ∙ (omega arith);
      voters = three;
      within = λ _. all_from_has (λ s. Names c s.region) (at ++ beside) (λ s h. elim (has_either at beside s h)
          [ inl k ↦ inl (ap Some (sym (zone_voter home nodes s k).1)) | inr k ↦ inr (contains_from_has rs s.region (not_home home rs 0 nodes s k).1.0) ]);
      constrained = covered_counts counts (at ++ beside) ones (zone_covers home rs nodes z);
      all_at_home = λ _. all_from_has (λ s. Some home ≡ Some s.region) at (λ s h. ap Some (sym (zone_voter home nodes s h).1));
      zones_apart = λ _. all_pairs_from (λ s t. ¬ SameZone s t) at (pairs_weaker (λ s t. s.zone ≢ t.zone) (λ s t. ¬ SameZone s t) at (λ s t h l ne same. ne same.1) (zone_voters_differ home nodes));
      two_at_home = λ e. absurd (cc);
      two_at_most = λ e. absurd (cc);
      first_at_home = first_and (λ s. s.region ≡ home) at (omega arith) (λ s h. (zone_voter home nodes s h).1);
      survives = λ lost loss. zone_survives home nodes lost many loss;
    }

few_zones : (home : List ℕ) (nodes : List NodeInfo) (w f : ℕ) → zones_lack home nodes ≡ Some (w, f) → length (one_per_zone (in_region home nodes)) < 3
few_zones home nodes w f h = grind (arith, nat_tests)

-- no three voters stand in three zones where there are fewer
pub zone_none : (n : ℕ) (counts voters : List (List ℕ × ℕ)) (home : List ℕ) (global : Bool) (nodes : List NodeInfo) (w f : ℕ) → zones_lack home nodes ≡ Some (w, f) → (p : Placement) → Fits (zone_config n counts voters home global) nodes p → ⊥
zone_none n counts voters home global nodes w f lack p fits =
    let at_home : (s : NodeInfo) → Has fits.at s → s.region ≡ home = λ s h. (let e = has_from_all (λ t. Some home ≡ Some t.region) fits.at (fits.all_at_home refl) s h in cc) in
    let in_nodes : (s : NodeInfo) → Has fits.at s → Has nodes s = λ s h. has_from_contains nodes s (has_from_all (Contains nodes) (fits.at ++ fits.beside) fits.known s (has_left fits.at fits.beside s h)) in
    let differ : Pairs (λ s t. s.zone ≢ t.zone) fits.at = pairs_weaker (λ s t. ¬ SameZone s t) (λ s t. s.zone ≢ t.zone) fits.at (λ s t h l ne e. ne (at_home s h ∙ sym (at_home t l), e)) (pairs_from_all (λ s t. ¬ SameZone s t) fits.at (fits.zones_apart refl)) in
    let zones = no_more (map (λ (s : NodeInfo). s.zone) fits.at) (map (λ (s : NodeInfo). s.zone) (one_per_zone (in_region home nodes)))
    (pairs_map (λ x y. x ≢ y) (λ (s : NodeInfo). s.zone) fits.at differ)
    (λ zone h. let found = map_has (λ (s : NodeInfo). s.zone) fits.at zone h in
    let P : List ℕ → Type 0 = λ x. Has (map (λ (s : NodeInfo). s.zone) (one_per_zone (in_region home nodes))) x in
    subst P found.2 (each_zone (in_region home nodes) found.0 (has_in_region home nodes found.0 (in_nodes found.0 found.1) (at_home found.0 found.1)))) in
    let few = few_zones home nodes w f lack in
    let three : length fits.at ≡ 3 = fits.voters in
    let a = length-map fits.at (λ (s : NodeInfo). s.zone) in let b = length-map (one_per_zone (in_region home nodes)) (λ (s : NodeInfo). s.zone) in
    omega arith
