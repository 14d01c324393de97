-- Configurations from their parts.
use Rattle.std.proofs.Common.{◌≡◌, ◌≢◌, ◌⊎◌, ℕ, zero, suc, ◌+◌, ◌||◌, ◌++◌, true, true≢false, not, ◌-◌, ◌<◌, ◌≤◌, List, [], ◌∷◌, Option, Some, All, Contains, IsUtf8, Bool, false, IsTrue, length, map, take, get_or, refl, ap, sym, ◌∙◌, subst, arith, inl, inr}
use Rattle.std.specs.Prelude.{◌↔◌, ◌==◌, max}
use Rattle.std.specs.List.{list_any}
use Rattle.std.specs.Str.{bytes_eq}
use Rattle.std.proofs.lemmas.Bool.{cases_eq, eqb-true}
use Rattle.std.proofs.lemmas.Slice.Eq.{bytes_eq-Decides}
use Rattle.std.proofs.lemmas.List.{get_or-map, get_or-take, get_or_default, length-map, length-take-le, map-append, take_all, take_more}
use Rattle.std.proofs.lemmas.List.Folds.{list_any_at}
use Rattle.std.proofs.lemmas.List.Quantifiers.{all_pairs_push}
use Rattle.std.proofs.lemmas.Option.{none-some, same_Some}
use Rattle.descriptors.specs.Sound.{AreDistinct}
use Rattle.std.proofs.lemmas.List.Elements.{All-head, All-map, All-tail}
use Rattle.region_sql.specs.declared.region_statements.Goal.{Goal}
use Rattle.region_sql.specs.declared.region_statements.Goal.TheVariants.{Zone, Region}
use Rattle.zone_compile.specs.declared.config.ZoneConfig.{ZoneConfig}
use Rattle.zone_compile.specs.Configuration.{HasForm, IsAtHome, kept_at, one_in_each, spread_over}

abbrev pub regions_in : List (List ℕ × ℕ) → List (List ℕ)
regions_in counts = map (λ k. k.0) counts

ones : (counts : List (List ℕ × ℕ)) → All (λ k. k.1 ≡ 1) counts → counts ≡ one_in_each (regions_in counts)
ones [] h = refl
ones (k ∷ counts) h = ap (λ (n : ℕ). let j : List ℕ × ℕ = (k.0, n) in j ∷ counts) (All-head (λ (j : List ℕ × ℕ). j.1 ≡ 1) k counts h) ∙ ap (λ l. (k.0, 1) ∷ l) (ones counts (All-tail (λ (j : List ℕ × ℕ). j.1 ≡ 1) k counts h))

abbrev pub replicas : Goal → ℕ → ℕ
replicas Zone n = 3 + (n - 1)
replicas Region n = max 5 (2 + (n - 1))

abbrev pub voters : Goal → ℕ
voters Zone = 3
voters Region = 5

abbrev pub at_home : Goal → ℕ
at_home Zone = 3
at_home Region = 2

same_config : (c : ZoneConfig) (n v : ℕ) (cs vs : List (List ℕ × ℕ)) (l : Option (List ℕ)) (g : Option Goal) → c.num_replicas ≡ n → c.num_voters ≡ v → c.constraints ≡ cs → c.voter_constraints ≡ vs → c.lease ≡ l → c.goal ≡ g
    → c ≡ record { num_replicas = n; num_voters = v; constraints = cs; voter_constraints = vs; lease = l; global_reads = c.global_reads; goal = g }
same_config c n v cs vs l g h1 h2 h3 h4 h5 h6 =
    ap (λ x. let y : ZoneConfig = record { num_replicas = x; num_voters = c.num_voters; constraints = c.constraints; voter_constraints = c.voter_constraints; lease = c.lease; global_reads = c.global_reads; goal = c.goal } in y) h1
    ∙ ap (λ x. let y : ZoneConfig = record { num_replicas = n; num_voters = x; constraints = c.constraints; voter_constraints = c.voter_constraints; lease = c.lease; global_reads = c.global_reads; goal = c.goal } in y) h2
    ∙ ap (λ x. let y : ZoneConfig = record { num_replicas = n; num_voters = v; constraints = x; voter_constraints = c.voter_constraints; lease = c.lease; global_reads = c.global_reads; goal = c.goal } in y) h3
    ∙ ap (λ x. let y : ZoneConfig = record { num_replicas = n; num_voters = v; constraints = cs; voter_constraints = x; lease = c.lease; global_reads = c.global_reads; goal = c.goal } in y) h4
    ∙ ap (λ x. let y : ZoneConfig = record { num_replicas = n; num_voters = v; constraints = cs; voter_constraints = vs; lease = x; global_reads = c.global_reads; goal = c.goal } in y) h5
    ∙ ap (λ x. let y : ZoneConfig = record { num_replicas = n; num_voters = v; constraints = cs; voter_constraints = vs; lease = l; global_reads = c.global_reads; goal = x } in y) h6

abbrev HasNumbers : ZoneConfig → (home : List ℕ) → (replicas voters at_home : ℕ) → Type 0
HasNumbers c home replicas voters at_home = (c.num_replicas ≡ replicas) × (c.num_voters ≡ voters) × All (λ k. k.1 ≡ 1) c.constraints × (c.voter_constraints ≡ (home, at_home) ∷ [])

spread_is : (goal : Goal) (c : ZoneConfig) (home : List ℕ) (n : ℕ) → n ≡ replicas goal (length c.constraints) → c.lease ≡ Some home → c.goal ≡ Some goal → HasNumbers c home n (voters goal) (at_home goal) → c ≡ spread_over goal (regions_in c.constraints) home c.global_reads
spread_is Zone c home n size lease goal h = same_config c (3 + (length (regions_in c.constraints) - 1)) 3 (one_in_each (regions_in c.constraints)) ((home, 3) ∷ []) (Some home) (Some Zone) (h.0 ∙ size ∙ ap (λ n. 3 + (n - 1)) (sym (length-map c.constraints (λ (k : List ℕ × ℕ). k.0)))) h.1 (ones c.constraints h.2) h.3 lease goal
spread_is Region c home n size lease goal h = same_config c (max 5 (2 + (length (regions_in c.constraints) - 1))) 5 (one_in_each (regions_in c.constraints)) ((home, 2) ∷ []) (Some home) (Some Region) (h.0 ∙ size ∙ ap (λ n. max 5 (2 + (n - 1))) (sym (length-map c.constraints (λ (k : List ℕ × ℕ). k.0)))) h.1 (ones c.constraints h.2) h.3 lease goal

are_ones : (regions : List (List ℕ)) → All (λ k. k.1 ≡ 1) (one_in_each regions)
are_ones regions = All-map (λ (k : List ℕ × ℕ). k.1 ≡ 1) (λ r. (r, 1)) regions (λ k r lt. refl)

is_spread : (goal : Goal) (c : ZoneConfig) (home : List ℕ) (n : ℕ) → n ≡ replicas goal (length c.constraints) → c ≡ spread_over goal (regions_in c.constraints) home c.global_reads → HasNumbers c home n (voters goal) (at_home goal)
is_spread Zone c home n size e = (
  ap (λ x. x.num_replicas) e ∙ ap (λ n. 3 + (n - 1)) (length-map c.constraints (λ (k : List ℕ × ℕ). k.0)) ∙ sym size,
  ap (λ x. x.num_voters) e,
  subst (All (λ (k : List ℕ × ℕ). k.1 ≡ 1)) (sym (ap (λ x. x.constraints) e)) (are_ones (regions_in c.constraints)),
  ap (λ x. x.voter_constraints) e,
)
is_spread Region c home n size e = (
  ap (λ x. x.num_replicas) e ∙ ap (λ n. max 5 (2 + (n - 1))) (length-map c.constraints (λ (k : List ℕ × ℕ). k.0)) ∙ sym size,
  ap (λ x. x.num_voters) e,
  subst (All (λ (k : List ℕ × ℕ). k.1 ≡ 1)) (sym (ap (λ x. x.constraints) e)) (are_ones (regions_in c.constraints)),
  ap (λ x. x.voter_constraints) e,
)

-- With its numbers a configuration is that of regions with this goal, and only with them.
pub spread_exactly : (goal : Goal) (c : ZoneConfig) (home : List ℕ) (n : ℕ) (r : Bool) → n ≡ replicas goal (length c.constraints) → c.lease ≡ Some home → c.goal ≡ Some goal → IsAtHome goal (regions_in c.constraints) home → (IsTrue r ↔ HasNumbers c home n (voters goal) (at_home goal))
    → (IsTrue r ↔ (IsAtHome goal (regions_in c.constraints) home × (c ≡ spread_over goal (regions_in c.constraints) home c.global_reads)))
spread_exactly goal c home n r size lease same at numbers = (λ yes. (at, spread_is goal c home n size lease same (numbers.0 yes)), λ h. numbers.1 (is_spread goal c home n size h.1))

-- ---- forms

-- What a configuration of regions names.
record IsSpread (c : ZoneConfig) (goal : Goal) (regions : List (List ℕ)) (home : List ℕ) (global : Bool) : Type 0 where
  prefers : c.lease ≡ Some home
  survives : c.goal ≡ Some goal
  counts : regions ≡ regions_in c.constraints
  reads : global ≡ c.global_reads

regions_back : (regions : List (List ℕ)) → regions ≡ regions_in (one_in_each regions)
regions_back [] = refl
regions_back (r ∷ regions) = ap (λ l. r ∷ l) (regions_back regions)

spread_names : (c : ZoneConfig) (goal : Goal) (regions : List (List ℕ)) (home : List ℕ) (global : Bool) → c ≡ spread_over goal regions home global → IsSpread c goal regions home global
spread_names c Zone regions home global e = record { prefers = ap (λ x. x.lease) e; survives = ap (λ x. x.goal) e; counts = regions_back regions ∙ ap regions_in (sym (ap (λ x. x.constraints) e)); reads = sym (ap (λ x. x.global_reads) e) }
spread_names c Region regions home global e = record { prefers = ap (λ x. x.lease) e; survives = ap (λ x. x.goal) e; counts = regions_back regions ∙ ap regions_in (sym (ap (λ x. x.constraints) e)); reads = sym (ap (λ x. x.global_reads) e) }

abbrev IsSpreadAt : ZoneConfig → Goal → List (List ℕ) → List ℕ → Bool → Type 0
IsSpreadAt c goal regions home global = IsAtHome goal regions home × (c ≡ spread_over goal regions home global)

-- The form of a configuration with a home and a goal.
pub form_with : (c : ZoneConfig) (home : List ℕ) (goal : Goal) → c.lease ≡ Some home → c.goal ≡ Some goal → HasForm c
    → (IsUtf8 home × (c ≡ kept_at home)) ⊎ (IsAtHome goal (regions_in c.constraints) home × (c ≡ spread_over goal (regions_in c.constraints) home c.global_reads))
form_with c home goal lease has (inl e) = absurd (none-some home (sym (ap (λ x. x.lease) e) ∙ lease))
form_with c home goal lease has (inr (inl h)) =
    let same : h.0 ≡ home = same_Some h.0 home (sym (ap (λ x. x.lease) h.2) ∙ lease) in
    inl (subst (λ x. IsUtf8 x × (c ≡ kept_at x)) same (h.1, h.2))
form_with c home goal lease has (inr (inr h)) =
    let names = spread_names c h.0 h.1 h.2 h.3 h.5 in
    let at : IsSpreadAt c h.0 h.1 home h.3 = subst (λ x. IsSpreadAt c h.0 h.1 x h.3) (same_Some h.2 home (sym names.prefers ∙ lease)) (h.4, h.5) in
    let of : IsSpreadAt c goal h.1 home h.3 = subst (λ g. IsSpreadAt c g h.1 home h.3) (same_Some h.0 goal (sym names.survives ∙ has)) at in
    inr (subst (λ b. IsSpreadAt c goal (regions_in c.constraints) home b) names.reads (subst (λ rs. IsSpreadAt c goal rs home h.3) names.counts of))

-- ---- loops

-- One more item that has P.
pub onward : {X : Type 0} (P : X → Type 0) (xs : List X) (i : ℕ) (x : X) → i < length xs → x ≡ get_or xs i x → P x → ((k : ℕ) (d : X) → k < i → P (get_or xs k d)) → (k : ℕ) (d : X) → k < i + 1 → P (get_or xs k d)
onward {X} P xs i x lt at here before k d within = by (cases_eq k i)
  where
    by : (k ≡ i) ⊎ (k ≡ i → ⊥) → P (get_or xs k d)
    by (inl same) = subst (λ n. P (get_or xs n d)) (sym same) (subst P (at ∙ get_or_default xs i x d lt) here)
    by (inr differ) = before k d (omega arith)

any_at : (region : List ℕ) (counts : List (List ℕ × ℕ)) → list_any (λ k. bytes_eq k.0 region) counts ≡ true → (i : ℕ) × (i < length counts) × (bytes_eq (get_or counts i (region, 0)).0 region ≡ true)
any_at region [] h = absurd (true≢false (sym h))
any_at region (k ∷ counts) h = by (bytes_eq k.0 region) refl (any_at region counts)
  where
    by : (b : Bool) → bytes_eq k.0 region ≡ b → (list_any (λ (j : List ℕ × ℕ). bytes_eq j.0 region) counts ≡ true → (i : ℕ) × (i < length counts) × (bytes_eq (get_or counts i (region, 0)).0 region ≡ true)) → (i : ℕ) × (i < length (k ∷ counts)) × (bytes_eq (get_or (k ∷ counts) i (region, 0)).0 region ≡ true)
    by true e rest = (0, omega arith, e)
    by false e rest = let r = rest (sym (ap (λ b. b || list_any (λ (j : List ℕ × ℕ). bytes_eq j.0 region) counts) e) ∙ h) in (suc r.0, omega (arith, r.1), r.2)

pub any_region : (region : List ℕ) (counts : List (List ℕ × ℕ)) → list_any (λ k. bytes_eq k.0 region) counts ≡ true → Contains (regions_in counts) region
any_region region counts h =
    let at = any_at region counts h in
    (at.0, omega (arith, at.1, length-map counts (λ (k : List ℕ × ℕ). k.0)), get_or-map (λ (k : List ℕ × ℕ). k.0) counts at.0 (region, 0) region at.1 ∙ (bytes_eq-Decides (get_or counts at.0 (region, 0)).0 region).0 at.2)

pub region_any : (region : List ℕ) (counts : List (List ℕ × ℕ)) → Contains (regions_in counts) region → list_any (λ k. bytes_eq k.0 region) counts ≡ true
region_any region counts (i, lt, at) =
    let within : i < length counts = omega (arith, lt, length-map counts (λ (k : List ℕ × ℕ). k.0)) in
    list_any_at (λ (k : List ℕ × ℕ). bytes_eq k.0 region) counts i (region, 0) within
    ((bytes_eq-Decides (get_or counts i (region, 0)).0 region).1 (sym (get_or-map (λ (k : List ℕ × ℕ). k.0) counts i (region, 0) region within) ∙ at))

none_at : (region : List ℕ) (counts : List (List ℕ × ℕ)) → list_any (λ k. bytes_eq k.0 region) counts ≡ false → (i : ℕ) (d : List ℕ × ℕ) → i < length counts → (get_or counts i d).0 ≢ region
none_at region [] h i d lt = absurd (omega arith)
none_at region (k ∷ counts) h i d lt = by (bytes_eq k.0 region) refl i lt (none_at region counts)
  where
    by : (b : Bool) → bytes_eq k.0 region ≡ b → (i : ℕ) → i < length (k ∷ counts) → (list_any (λ (j : List ℕ × ℕ). bytes_eq j.0 region) counts ≡ false → (n : ℕ) (e : List ℕ × ℕ) → n < length counts → (get_or counts n e).0 ≢ region) → (get_or (k ∷ counts) i d).0 ≢ region
    by true e i lt rest = absurd (true≢false (sym (ap (λ b. b || list_any (λ (j : List ℕ × ℕ). bytes_eq j.0 region) counts) e) ∙ h))
    by false e zero lt rest = λ same. true≢false (sym ((bytes_eq-Decides k.0 region).1 same) ∙ e)
    by false e (suc i) lt rest = rest (sym (ap (λ b. b || list_any (λ (j : List ℕ × ℕ). bytes_eq j.0 region) counts) e) ∙ h) i d (omega arith)

pub distinct_more : (counts : List (List ℕ × ℕ)) (i : ℕ) (k : List ℕ × ℕ) → i < length counts → k ≡ get_or counts i k → list_any (λ j. bytes_eq j.0 k.0) (take i counts) ≡ false → AreDistinct (regions_in (take i counts)) → AreDistinct (regions_in (take (i + 1) counts))
distinct_more counts i k lt at none before =
    let first : List (List ℕ × ℕ) = take i counts in
    let more : regions_in (take (i + 1) counts) ≡ regions_in first ++ k.0 ∷ [] =
    ap regions_in (take_more counts i k lt ∙ ap (λ j. first ++ j ∷ []) (sym at)) ∙ map-append (λ (j : List ℕ × ℕ). j.0) first (k ∷ []) in
    subst AreDistinct (sym more) (all_pairs_push (λ x y. x ≢ y) (regions_in first) k.0 before
    (λ n d within same. let inside : n < length first = omega (arith, within, length-map first (λ (j : List ℕ × ℕ). j.0)) in
    none_at k.0 first none n k inside (sym (get_or-map (λ (j : List ℕ × ℕ). j.0) first n k d inside) ∙ same)))

pub named_twice : (counts : List (List ℕ × ℕ)) (i : ℕ) (k : List ℕ × ℕ) → i < length counts → k ≡ get_or counts i k → list_any (λ j. bytes_eq j.0 k.0) (take i counts) ≡ true → AreDistinct (regions_in counts) → ⊥
named_twice counts i k lt at found distinct =
    let region : List ℕ = k.0 in
    let other = any_at region (take i counts) found in
    let before : other.0 < i = omega (arith, other.1, length-take-le i counts (omega (arith, lt))) in
    let there : (get_or counts other.0 (region, 0)).0 ≡ region = ap (λ (j : List ℕ × ℕ). j.0) (sym (get_or-take i counts other.0 (region, 0) before)) ∙ (bytes_eq-Decides (get_or (take i counts) other.0 (region, 0)).0 region).0 other.2 in
    distinct other.0 i region before (omega (arith, lt, length-map counts (λ (j : List ℕ × ℕ). j.0)))
    (get_or-map (λ (j : List ℕ × ℕ). j.0) counts other.0 (region, 0) region (omega (arith, before, lt)) ∙ there ∙ ap (λ (j : List ℕ × ℕ). j.0) at ∙ sym (get_or-map (λ (j : List ℕ × ℕ). j.0) counts i k region lt))

pub distinct_all : (counts : List (List ℕ × ℕ)) (i : ℕ) → length counts ≤ i → AreDistinct (regions_in (take i counts)) → AreDistinct (regions_in counts)
distinct_all counts i past h = subst (λ l. AreDistinct (regions_in l)) (take_all i counts past) h

pub regions_texts : (counts : List (List ℕ × ℕ)) → All (λ k. IsUtf8 k.0) counts → All IsUtf8 (regions_in counts)
regions_texts counts h = All-map IsUtf8 (λ (k : List ℕ × ℕ). k.0) counts h

pub texts_of : (counts : List (List ℕ × ℕ)) → All IsUtf8 (regions_in counts) → All (λ k. IsUtf8 k.0) counts
texts_of counts h i k lt = subst IsUtf8 (get_or-map (λ (j : List ℕ × ℕ). j.0) counts i k k.0 lt) (h i k.0 (omega (arith, lt, length-map counts (λ (j : List ℕ × ℕ). j.0))))

pub is_one : (first : List ℕ × ℕ) (counts more : List (List ℕ × ℕ)) (region : List ℕ) (count : ℕ) → counts ≡ first ∷ more → more ≡ [] → first.0 ≡ region → first.1 ≡ count → counts ≡ (region, count) ∷ []
is_one first counts more region count e none r n = e ∙ ap (λ l. first ∷ l) none ∙ ap (λ (x : List ℕ). let j : List ℕ × ℕ = (x, first.1) in j ∷ []) r ∙ ap (λ (x : ℕ). let j : List ℕ × ℕ = (region, x) in j ∷ []) n

pub one_is : (first : List ℕ × ℕ) (counts more : List (List ℕ × ℕ)) (region : List ℕ) (count : ℕ) → counts ≡ first ∷ more → counts ≡ (region, count) ∷ [] → first.1 ≡ count
one_is first counts more region count e h = cc

pub empty_of : {X : Type 0} (l : List X) → true ≡ (length l == 0) → l ≡ []
empty_of [] h = refl
empty_of (x ∷ l) h = absurd (omega (arith, eqb-true (length (x ∷ l)) 0 (sym h)))

pub bytes_of : (a b : List ℕ) → false ≡ not (bytes_eq a b) → a ≡ b
bytes_of a b h = by (bytes_eq a b) refl
  where
    by : (t : Bool) → bytes_eq a b ≡ t → a ≡ b
    by true e = (bytes_eq-Decides a b).0 e
    by false e = absurd (true≢false (sym (h ∙ ap not e)))

pub at_home_of : (goal : Goal) (counts : List (List ℕ × ℕ)) (home : List ℕ) → All (λ k. IsUtf8 k.0) counts → length counts ≤ 16 → AreDistinct (regions_in counts) → Contains (regions_in counts) home → (goal ≡ Region → 3 ≤ length counts) → IsAtHome goal (regions_in counts) home
at_home_of goal counts home texts few distinct at enough = record {
  text = regions_texts counts texts;
  few = omega (arith, few, length-map counts (λ (k : List ℕ × ℕ). k.0));
  distinct = distinct;
  at_home = at;
  enough = λ g. omega (arith, enough g, length-map counts (λ (k : List ℕ × ℕ). k.0));
}
