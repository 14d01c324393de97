-- What the tests of nodes tell.
use Rattle.std.proofs.Common.{◌≡◌, ◌≢◌, ℕ, take, get_or, ◌+◌, ◌<◌, ◌≤◌, Bool, true, false, cond, not, ◌&&◌, ◌||◌, nat_lt, List, [], ◌∷◌, ◌++◌, length, refl, ap, sym, ◌∙◌, subst, inl, inr, arith, true≢false}
use Rattle.std.specs.Prelude.{◌⊎◌, ◌==◌, Contains, find, map, Option, Some, None}
use Rattle.std.specs.List.{cons_option, filter_map, list_all, list_any}
use Rattle.std.specs.Option.{option_to_list}
use Rattle.std.specs.Str.{bytes_eq}
use Rattle.std.proofs.lemmas.Bool.{eqb-true, eq-eqb}
use Rattle.std.proofs.lemmas.Bool.Decides.{nat_tests}
use Rattle.std.proofs.lemmas.List.{take_more}
use Rattle.std.proofs.lemmas.List.Elements.{filter_map-append}
use Rattle.std.proofs.lemmas.Option.{none-some, same_Some}
use Rattle.mr_base.specs.declared.ids.NodeId.{NodeId}
use Rattle.mr_base.specs.declared.nodes.NodeInfo.{NodeInfo}
use Rattle.zone_compile.specs.declared.config.ZoneConfig.{ZoneConfig}
use Rattle.placement.specs.Fitting.{ServeFor, ids_of}
use Rattle.placement.specs.Tests.{found, has_home, has_region, rise, serve}
use Rattle.placement.proofs.Lists.{Has, all_pairs_from, contains_from_has, has_from_contains, has_map, has_option, map_has, pairs_from_all}
use Rattle.placement.proofs.Regions.{Rising, bytes_same, same_bytes}

-- ---- tests

pub and_both : (a b : Bool) → (a && b) ≡ true → (a ≡ true) × (b ≡ true)
and_both true b h = (refl, h)
and_both false b h = absurd (true≢false (sym h))

pub both_and : (a b : Bool) → a ≡ true → b ≡ true → (a && b) ≡ true
both_and true b h k = k
both_and false b h k = absurd (true≢false (sym h))

pub or_cases : (a b : Bool) → (a || b) ≡ true → (a ≡ true) ⊎ (b ≡ true)
or_cases true b h = inl refl
or_cases false b h = inr h

pub or_left : (a b : Bool) → a ≡ true → (a || b) ≡ true
or_left true b h = refl
or_left false b h = absurd (true≢false (sym h))

pub or_right : (a b : Bool) → b ≡ true → (a || b) ≡ true
or_right true b h = refl
or_right false b h = h

not_true : (b : Bool) → not b ≡ true → b ≡ false
not_true true h = absurd (true≢false (sym h))
not_true false h = refl

pub each_of : {A : Type 0} (p : A → Bool) (xs : List A) → list_all p xs ≡ true → (x : A) → Has xs x → p x ≡ true
each_of p [] h x k = absurd k
each_of {A} p (y ∷ ys) h x (inl e) = let P : A → Type 0 = λ z. p z ≡ true in subst P e (and_both (p y) (list_all p ys) h).0
each_of p (y ∷ ys) h x (inr k) = each_of p ys (and_both (p y) (list_all p ys) h).1 x k

pub all_of : {A : Type 0} (p : A → Bool) (xs : List A) → ((x : A) → Has xs x → p x ≡ true) → list_all p xs ≡ true
all_of p [] h = refl
all_of p (y ∷ ys) h = both_and (p y) (list_all p ys) (h y (inl refl)) (all_of p ys (λ x k. h x (inr k)))

pub some_of : {A : Type 0} (p : A → Bool) (xs : List A) → list_any p xs ≡ true → (x : A) × Has xs x × (p x ≡ true)
some_of p [] h = absurd (true≢false (sym h))
some_of p (y ∷ ys) h = elim (or_cases (p y) (list_any p ys) h) [ inl e ↦ (y, inl refl, e) | inr k ↦ (let more = some_of p ys k in (more.0, inr more.1, more.2)) ]

pub any_of : {A : Type 0} (p : A → Bool) (xs : List A) (x : A) → Has xs x → p x ≡ true → list_any p xs ≡ true
any_of p [] x h e = absurd h
any_of {A} p (y ∷ ys) x (inl s) e = let P : A → Type 0 = λ z. p z ≡ true in or_left (p y) (list_any p ys) (subst P (sym s) e)
any_of p (y ∷ ys) x (inr k) e = or_right (p y) (list_any p ys) (any_of p ys x k e)

is_zero : (nodes : List NodeInfo) → not (length nodes == 0) ≡ true → nodes ≢ []
is_zero [] h = λ e. true≢false (sym h)
is_zero (s ∷ nodes) h = λ e. cc

no_zero : (nodes : List NodeInfo) → nodes ≢ [] → not (length nodes == 0) ≡ true
no_zero [] h = absurd (h refl)
no_zero (s ∷ nodes) h = grind (arith, nat_tests)

pub same_number : (a b : ℕ) → (a == b) ≡ true → a ≡ b
same_number a b h = eqb-true a b h

pub number_same : (a b : ℕ) → a ≡ b → (a == b) ≡ true
number_same a b e = ap (λ n. n == b) e ∙ eq-eqb b b refl

-- ---- nodes that serve

rising_of : (nodes : List NodeInfo) → rise nodes ≡ true → Rising nodes
rising_of [] h = tt
rising_of (s ∷ nodes) h =
    let both = and_both (list_all (λ t. nat_lt s.id.0 t.id.0) nodes) (rise nodes) h in
    (λ t k. let e = each_of (λ (x : NodeInfo). nat_lt s.id.0 x.id.0) nodes both.0 t k in grind (arith, nat_tests), rising_of nodes both.1)

rise_of : (nodes : List NodeInfo) → Rising nodes → rise nodes ≡ true
rise_of [] h = refl
rise_of (s ∷ nodes) h = both_and (list_all (λ t. nat_lt s.id.0 t.id.0) nodes) (rise nodes) (all_of (λ t. nat_lt s.id.0 t.id.0) nodes (λ t k. let less = h.0 t k in grind (arith, nat_tests))) (rise_of nodes h.1)

region_there : (nodes : List NodeInfo) (region : List ℕ) → has_region nodes region ≡ true → Contains (map (λ s. s.region) nodes) region
region_there nodes region h =
    let some = some_of (λ (s : NodeInfo). bytes_eq s.region region) nodes h in
    let P : List ℕ → Type 0 = λ r. Has (map (λ (s : NodeInfo). s.region) nodes) r in
    contains_from_has (map (λ (s : NodeInfo). s.region) nodes) region (subst P (same_bytes some.0.region region some.2) (has_map (λ (s : NodeInfo). s.region) nodes some.0 some.1))

there_region : (nodes : List NodeInfo) (region : List ℕ) → Contains (map (λ s. s.region) nodes) region → has_region nodes region ≡ true
there_region nodes region h =
    let some = map_has (λ (s : NodeInfo). s.region) nodes region (has_from_contains (map (λ (s : NodeInfo). s.region) nodes) region h) in
    any_of (λ (s : NodeInfo). bytes_eq s.region region) nodes some.0 some.1 (bytes_same some.0.region region some.2)

home_there : (lease : Option (List ℕ)) (nodes : List NodeInfo) → has_home lease nodes ≡ true → (region : List ℕ) → lease ≡ Some region → Contains (map (λ s. s.region) nodes) region
home_there None nodes h region e = absurd (none-some region e)
home_there (Some home) nodes h region e = subst (Contains (map (λ s. s.region) nodes)) (same_Some home region e) (region_there nodes home h)

there_home : (lease : Option (List ℕ)) (nodes : List NodeInfo) → ((region : List ℕ) → lease ≡ Some region → Contains (map (λ s. s.region) nodes) region) → has_home lease nodes ≡ true
there_home None nodes h = refl
there_home (Some home) nodes h = there_region nodes home (h home refl)

pub serving : (c : ZoneConfig) (nodes : List NodeInfo) → serve c nodes ≡ true → ServeFor c nodes
serving c nodes h =
    let a = and_both (not (length nodes == 0) && rise nodes && has_home c.lease nodes) (list_all (λ k. has_region nodes k.0) c.constraints) h in
    let b = and_both (not (length nodes == 0) && rise nodes) (has_home c.lease nodes) a.0 in
    let d = and_both (not (length nodes == 0)) (rise nodes) b.0 in
    record {
      some = is_zero nodes d.0;
      rising = all_pairs_from (λ s t. s.id.0 < t.id.0) nodes (rising_of nodes d.1);
      each = λ region named. elim named [
        | inl e ↦ home_there c.lease nodes b.1 region e
        | inr k ↦
            (let some = map_has (λ (j : List ℕ × ℕ). j.0) c.constraints region (has_from_contains (map (λ (j : List ℕ × ℕ). j.0) c.constraints) region k) in
            subst (Contains (map (λ s. s.region) nodes)) some.2 (region_there nodes some.0.0 (each_of (λ (j : List ℕ × ℕ). has_region nodes j.0) c.constraints a.1 some.0 some.1)))
      ];
    }

pub serving_back : (c : ZoneConfig) (nodes : List NodeInfo) → ServeFor c nodes → serve c nodes ≡ true
serving_back c nodes h =
    both_and (not (length nodes == 0) && rise nodes && has_home c.lease nodes) (list_all (λ k. has_region nodes k.0) c.constraints)
    (both_and (not (length nodes == 0) && rise nodes) (has_home c.lease nodes)
    (both_and (not (length nodes == 0)) (rise nodes) (no_zero nodes h.some) (rise_of nodes (pairs_from_all (λ s t. s.id.0 < t.id.0) nodes h.rising)))
    (there_home c.lease nodes (λ region e. h.each region (inl e))))
    (all_of (λ k. has_region nodes k.0) c.constraints (λ k there. there_region nodes k.0 (h.each k.0 (inr (contains_from_has (map (λ (j : List ℕ × ℕ). j.0) c.constraints) k.0 (has_map (λ (j : List ℕ × ℕ). j.0) c.constraints k there))))))

-- ---- nodes by their numbers

pub same_id : (a b : NodeId) → a.0 ≡ b.0 → a ≡ b
same_id a b e = ap (λ n. let x : NodeId = record { 0 = n } in x) e

find_has : (p : NodeInfo → Bool) (xs : List NodeInfo) (x : NodeInfo) → find p xs ≡ Some x → Has xs x × (p x ≡ true)
find_has p [] x h = absurd (none-some x h)
find_has p (y ∷ ys) x h = by (p y) refl (find_has p ys x)
  where
    by : (b : Bool) → p y ≡ b → (find p ys ≡ Some x → Has ys x × (p x ≡ true)) → Has (y ∷ ys) x × (p x ≡ true)
    by true e rest =
        let same : y ≡ x = same_Some y x (ap (λ b. cond b (Some y) (find p ys)) (sym e) ∙ h) in
        let P : NodeInfo → Type 0 = λ z. p z ≡ true in
        (inl same, subst P same e)
    by false e rest = let more = rest (ap (λ b. cond b (Some y) (find p ys)) (sym e) ∙ h) in (inr more.0, more.1)

find_self : (nodes : List NodeInfo) (x : NodeInfo) → Rising nodes → Has nodes x → find (λ s. s.id.0 == x.id.0) nodes ≡ Some x
find_self [] x up h = absurd h
find_self (y ∷ ys) x up (inl e) = ap (λ b. cond b (Some y) (find (λ (s : NodeInfo). s.id.0 == x.id.0) ys)) (number_same y.id.0 x.id.0 (ap (λ (s : NodeInfo). s.id.0) e)) ∙ ap Some e
find_self (y ∷ ys) x up (inr k) =
    let less : y.id.0 < x.id.0 = up.0 x k in
    let differ : (y.id.0 == x.id.0) ≡ false = grind (arith, nat_tests) in
    ap (λ b. cond b (Some y) (find (λ (s : NodeInfo). s.id.0 == x.id.0) ys)) differ ∙ find_self ys x up.1 k

pub found_in : (nodes : List NodeInfo) (ids : List NodeId) (s : NodeInfo) → Has (found nodes ids) s → Has nodes s
found_in nodes [] s h = absurd h
found_in nodes (id ∷ ids) s h = elim (has_option (find (λ (t : NodeInfo). t.id.0 == id.0) nodes) (found nodes ids) s h)
    [ inl e ↦ (find_has (λ (t : NodeInfo). t.id.0 == id.0) nodes s e).0 | inr k ↦ found_in nodes ids s k ]

found_few : (nodes : List NodeInfo) (ids : List NodeId) → length (found nodes ids) ≤ length ids
found_few nodes [] = omega arith
found_few nodes (id ∷ ids) = by (find (λ (t : NodeInfo). t.id.0 == id.0) nodes) (found_few nodes ids)
  where
    by : (o : Option NodeInfo) → length (found nodes ids) ≤ length ids → length (cons_option o (found nodes ids)) ≤ length (id ∷ ids)
    by None h = omega (arith, h)
    by (Some s) h = omega (arith, h)

pub named_ids : (nodes : List NodeInfo) (ids : List NodeId) → length (found nodes ids) ≡ length ids → ids_of (found nodes ids) ≡ ids
named_ids nodes [] h = refl
named_ids nodes (id ∷ ids) h = by (find (λ (t : NodeInfo). t.id.0 == id.0) nodes) refl h (named_ids nodes ids)
  where
    by : (o : Option NodeInfo) → find (λ (t : NodeInfo). t.id.0 == id.0) nodes ≡ o → length (cons_option o (found nodes ids)) ≡ length (id ∷ ids) → (length (found nodes ids) ≡ length ids → ids_of (found nodes ids) ≡ ids) → ids_of (cons_option o (found nodes ids)) ≡ id ∷ ids
    by None e size rest = absurd (omega (arith, size, found_few nodes ids))
    by (Some s) e size rest =
        let same = same_id s.id id (same_number s.id.0 id.0 (find_has (λ (t : NodeInfo). t.id.0 == id.0) nodes s e).1) in
        ap (λ n. n ∷ ids_of (found nodes ids)) same ∙ ap (λ l. id ∷ l) (rest (omega (arith, size)))

pub found_again : (nodes xs : List NodeInfo) → Rising nodes → ((s : NodeInfo) → Has xs s → Has nodes s) → found nodes (ids_of xs) ≡ xs
found_again nodes [] up h = refl
found_again nodes (x ∷ xs) up h =
    ap (λ o. cons_option o (found nodes (ids_of xs))) (find_self nodes x up (h x (inl refl))) ∙ ap (λ l. x ∷ l) (found_again nodes xs up (λ s k. h s (inr k)))

filter_map-one : {X Y : Type 0} (h : X → Option Y) (x : X) → filter_map h (x ∷ []) ≡ option_to_list (h x)
filter_map-one h x = elim (h x) as (λ o. cons_option o [] ≡ option_to_list o) [ None ↦ refl | Some y ↦ refl ]

pub found_step : (nodes : List NodeInfo) (ids : List NodeId) (i : ℕ) (d : NodeId) (held new : List NodeInfo) → i < length ids → held ≡ found nodes (take i ids) → new ≡ held ++ option_to_list (find (λ s. s.id.0 == (get_or ids i d).0) nodes) → new ≡ found nodes (take (i + 1) ids)
found_step nodes ids i d held new lt before now =
    let h : NodeId → Option NodeInfo = λ n. find (λ s. s.id.0 == n.0) nodes in
    now ∙ ap (λ l. l ++ option_to_list (h (get_or ids i d))) before ∙ ap (λ l. found nodes (take i ids) ++ l) (sym (filter_map-one h (get_or ids i d)))
    ∙ sym (filter_map-append h (take i ids) (get_or ids i d ∷ [])) ∙ ap (filter_map h) (sym (take_more ids i d lt))
