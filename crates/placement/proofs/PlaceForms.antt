use Rattle.std.proofs.Common.{◌≡◌, ◌≢◌, ℕ, suc, ◌+◌, ◌-◌, List, [], ◌∷◌, length, Bool, true, false, cond, not, refl, ap, sym, ◌∙◌, subst, inl, inr, arith}
use Rattle.std.specs.Prelude.{max, Contains, filter, Some, None, Result, Ok, Err, IfOk, IfErr}
use Rattle.std.specs.Str.{bytes_eq}
use Rattle.mr_base.specs.declared.nodes.NodeInfo.{NodeInfo}
use Rattle.region_sql.specs.declared.region_statements.Goal.{Goal}
use Rattle.region_sql.specs.declared.region_statements.Goal.TheVariants.{Zone, Region}
use Rattle.zone_compile.specs.declared.config.ZoneConfig.{ZoneConfig}
use Rattle.zone_compile.specs.Configuration.{HasForm, IsAtHome, kept_at, one_in_each, spread_over, without_regions}
use Rattle.placement.specs.declared.placement_types.Placement.{Placement}
use Rattle.placement.specs.declared.placement_types.PlaceRefusal.{PlaceRefusal}
use Rattle.placement.specs.declared.placement_types.PlaceRefusal.TheVariants.{Unplaceable, Memory}
use Rattle.placement.specs.Majority.{SurvivesLosses}
use Rattle.placement.specs.Fitting.{Fits, Names, ServeFor}
use Rattle.placement.specs.Placing.{Answers, NoneFits, lack_of, other_regions, placement_of}
use Rattle.placement.proofs.Lists.{Has, Pairs, all_from_has, contains_from_has, has_from_contains, map_has, pairs_from_all}
use Rattle.placement.proofs.Regions.{bytes_differ, bytes_same}
use Rattle.placement.proofs.Fit.{AreOnes, regions_of, zone_fits, zone_none}
use Rattle.placement.proofs.FitRegions.{region_fits, region_none}

-- ---- what a configuration of the table has

filter_all : {A : Type 0} (p : A → Bool) (xs : List A) → ((x : A) → Has xs x → p x ≡ true) → filter p xs ≡ xs
filter_all p [] h = refl
filter_all p (x ∷ xs) h = ap (λ b. cond b (x ∷ filter p xs) (filter p xs)) (h x (inl refl)) ∙ ap (λ l. x ∷ l) (filter_all p xs (λ y k. h y (inr k)))

others_length : (home : List ℕ) (rs : List (List ℕ)) → Pairs (λ x y. x ≢ y) rs → Has rs home → length (other_regions home rs) + 1 ≡ length rs
others_length home [] p h = absurd h
others_length home (r ∷ rs) p (inl e) =
    let all = filter_all (λ x. not (bytes_eq x home)) rs (λ q k. ap not (bytes_differ q home (λ same. p.0 q k (e ∙ sym same)))) in
    let kept : other_regions home (r ∷ rs) ≡ rs = ap (λ b. cond (not b) (r ∷ filter (λ x. not (bytes_eq x home)) rs) (filter (λ x. not (bytes_eq x home)) rs)) (bytes_same r home e) ∙ all in
    let size : length (other_regions home (r ∷ rs)) ≡ length rs = ap length kept in omega arith
others_length home (r ∷ rs) p (inr k) =
    let rest = others_length home rs p.1 k in
    let kept : other_regions home (r ∷ rs) ≡ r ∷ other_regions home rs = ap (λ b. cond (not b) (r ∷ filter (λ x. not (bytes_eq x home)) rs) (filter (λ x. not (bytes_eq x home)) rs)) (bytes_differ r home (p.0 home k)) in
    let size : length (other_regions home (r ∷ rs)) ≡ suc (length (other_regions home rs)) = ap length kept in omega arith

regions_of_ones : (rs : List (List ℕ)) → regions_of (one_in_each rs) ≡ rs
regions_of_ones [] = refl
regions_of_ones (r ∷ rs) = ap (λ l. r ∷ l) (regions_of_ones rs)

are_ones : (rs : List (List ℕ)) → AreOnes (one_in_each rs)
are_ones rs k h = let found = map_has (λ (r : List ℕ). (r, 1)) rs k h in ap (λ (j : List ℕ × ℕ). j.1) (sym found.2)

record Spread (goal : Goal) (regions : List (List ℕ)) (home : List ℕ) : Type 0 where
  distinct : Pairs (λ x y. x ≢ y) (regions_of (one_in_each regions))
  others : length (other_regions home (regions_of (one_in_each regions))) + 1 ≡ length regions

spread_facts : (goal : Goal) (regions : List (List ℕ)) (home : List ℕ) → IsAtHome goal regions home → Spread goal regions home
spread_facts goal regions home at =
    let distinct : Pairs (λ x y. x ≢ y) regions = pairs_from_all (λ x y. x ≢ y) regions at.distinct in
    let P : List (List ℕ) → Type 0 = λ l. Pairs (λ x y. x ≢ y) l in
    let Q : List (List ℕ) → Type 0 = λ l. length (other_regions home l) + 1 ≡ length regions in
    let same = sym (regions_of_ones regions) in
    record { distinct = subst P same distinct; others = subst Q same (others_length home regions distinct (has_from_contains regions home at.at_home)) }

-- ---- a placement that nothing is lacking for fits

abbrev FitsThere : ZoneConfig → List NodeInfo → Type 0
FitsThere c nodes = ServeFor c nodes → lack_of c nodes ≡ None → Fits c nodes (placement_of c nodes)

abbrev NoneThere : ZoneConfig → List NodeInfo → Type 0
NoneThere c nodes = ServeFor c nodes → (w f : ℕ) → lack_of c nodes ≡ Some (w, f) → (p : Placement) → Fits c nodes p → ⊥

kept_fits : (home : List ℕ) (nodes : List NodeInfo) → FitsThere (kept_at home) nodes
kept_fits home nodes serve enough = zone_fits 3 [] ((home, 3) ∷ []) home false nodes (λ k h. absurd h) tt refl serve enough

kept_none : (home : List ℕ) (nodes : List NodeInfo) → NoneThere (kept_at home) nodes
kept_none home nodes serve w f lack p fits = zone_none 3 [] ((home, 3) ∷ []) home false nodes w f lack p fits

spread_fits : (goal : Goal) (regions : List (List ℕ)) (home : List ℕ) (global : Bool) (nodes : List NodeInfo) → IsAtHome goal regions home → FitsThere (spread_over goal regions home global) nodes
spread_fits Zone regions home global nodes at serve enough =
    let facts = spread_facts Zone regions home at in let size = facts.others in
    zone_fits (3 + (length regions - 1)) (one_in_each regions) ((home, 3) ∷ []) home global nodes (are_ones regions) facts.distinct (omega arith) serve enough
spread_fits Region regions home global nodes at serve enough =
    let facts = spread_facts Region regions home at in let size = facts.others in let three = at.enough refl in
    region_fits (max 5 (2 + (length regions - 1))) (one_in_each regions) ((home, 2) ∷ []) home global nodes (are_ones regions) facts.distinct (omega arith) (omega arith) serve enough

spread_none : (goal : Goal) (regions : List (List ℕ)) (home : List ℕ) (global : Bool) (nodes : List NodeInfo) → IsAtHome goal regions home → NoneThere (spread_over goal regions home global) nodes
spread_none Zone regions home global nodes at serve w f lack p fits =
    zone_none (3 + (length regions - 1)) (one_in_each regions) ((home, 3) ∷ []) home global nodes w f lack p fits
spread_none Region regions home global nodes at serve w f lack p fits =
    let facts = spread_facts Region regions home at in let size = facts.others in let three = at.enough refl in
    region_none (max 5 (2 + (length regions - 1))) (one_in_each regions) ((home, 2) ∷ []) home global nodes w f (omega arith) serve lack p fits

alone_fits : (nodes : List NodeInfo) → FitsThere without_regions nodes
alone_fits [] serve enough = absurd (serve.some refl)
alone_fits (s ∷ nodes) serve enough = record {
  at = s ∷ [];
  beside = [];
  named = refl;
  named_others = refl;
  known = all_from_has (Contains (s ∷ nodes)) (s ∷ []) (λ t h. contains_from_has (s ∷ nodes) t (elim h [ inl e ↦ inl e | inr k ↦ absurd k ]));
  distinct = λ i j d low high. absurd (omega arith);
  replicas = refl;
  voters = refl;
  within = λ some. absurd (some refl);
  constrained = λ k d h. absurd (omega arith);
  all_at_home = λ e. absurd (cc);
  zones_apart = λ e. absurd (cc);
  two_at_home = λ e. absurd (cc);
  two_at_most = λ e. absurd (cc);
  first_at_home = tt;
  survives = λ lost loss. absurd loss;
}

pub placement_fits : (c : ZoneConfig) (nodes : List NodeInfo) → HasForm c → ServeFor c nodes → lack_of c nodes ≡ None → Fits c nodes (placement_of c nodes)
placement_fits c nodes (inl e) = let P : ZoneConfig → Type 0 = λ x. FitsThere x nodes in subst P (sym e) (alone_fits nodes)
placement_fits c nodes (inr (inl h)) = let P : ZoneConfig → Type 0 = λ x. FitsThere x nodes in subst P (sym h.2) (kept_fits h.0 nodes)
placement_fits c nodes (inr (inr h)) = let P : ZoneConfig → Type 0 = λ x. FitsThere x nodes in subst P (sym h.5) (spread_fits h.0 h.1 h.2 h.3 nodes h.4)

alone_none : (nodes : List NodeInfo) → NoneThere without_regions nodes
alone_none nodes serve w f lack p fits = absurd (cc)

pub no_placement_fits : (c : ZoneConfig) (nodes : List NodeInfo) → HasForm c → ServeFor c nodes → (w f : ℕ) → lack_of c nodes ≡ Some (w, f) → (p : Placement) → Fits c nodes p → ⊥
no_placement_fits c nodes (inl e) = let P : ZoneConfig → Type 0 = λ x. NoneThere x nodes in subst P (sym e) (alone_none nodes)
no_placement_fits c nodes (inr (inl h)) = let P : ZoneConfig → Type 0 = λ x. NoneThere x nodes in subst P (sym h.2) (kept_none h.0 nodes)
no_placement_fits c nodes (inr (inr h)) = let P : ZoneConfig → Type 0 = λ x. NoneThere x nodes in subst P (sym h.5) (spread_none h.0 h.1 h.2 h.3 nodes h.4)

-- ---- what an answer says

pub answer_fits : (c : ZoneConfig) (nodes : List NodeInfo) → HasForm c → ServeFor c nodes → (r : Result Placement PlaceRefusal) → Answers c.lease (lack_of c nodes) (placement_of c nodes) r → IfOk r (Fits c nodes)
answer_fits c nodes form serve (Ok q) a = let P : Placement → Type 0 = λ p. Fits c nodes p in subst P (sym a.1) (placement_fits c nodes form serve a.0)
answer_fits c nodes form serve (Err e) a = tt

pub answer_none : (c : ZoneConfig) (nodes : List NodeInfo) → HasForm c → ServeFor c nodes → (r : Result Placement PlaceRefusal) → Answers c.lease (lack_of c nodes) (placement_of c nodes) r → IfErr r (NoneFits c nodes)
answer_none c nodes form serve (Ok q) a = tt
answer_none c nodes form serve (Err Memory) a = tt
answer_none c nodes form serve (Err (Unplaceable region w f)) a = no_placement_fits c nodes form serve w f a.1

pub answer_survives : (c : ZoneConfig) (nodes : List NodeInfo) (r : Result Placement PlaceRefusal) → IfOk r (Fits c nodes) → IfOk r (λ p. SurvivesLosses c.goal nodes p.voters)
answer_survives c nodes (Ok q) fits = fits.survives
answer_survives c nodes (Err e) fits = tt

lone_names : (region : List ℕ) → Names without_regions region → ⊥
lone_names region (inl e) = cc
lone_names region (inr h) = has_from_contains [] region h

-- one node serves for a database without regions
pub lone_serves : (c : ZoneConfig) (nodes : List NodeInfo) → c ≡ without_regions → length nodes ≡ 1 → ServeFor c nodes
lone_serves c [] e one = absurd (omega arith)
lone_serves c (s ∷ t ∷ nodes) e one = absurd (omega arith)
lone_serves c (s ∷ []) e one = record {
  some = λ none. cc;
  rising = λ i j d low high. absurd (omega arith);
  each = λ region names. let P : ZoneConfig → Type 0 = λ x. Names x region in absurd (lone_names region (subst P e names));
}
