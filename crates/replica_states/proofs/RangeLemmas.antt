-- Where the ranges of a stage stand, and how a change of one keeps the ties of all.
use Rattle.std.proofs.Common.{◌≡◌, ◌≢◌, ◌<◌, ◌≤◌, ◌+◌, ◌-◌, ◌∙◌, ◌==◌, ℕ, zero, suc, Bool, true, false, cond, List, [], ◌∷◌, ◌++◌, Option, Some, All, AllPairs, Contains, find, map, set, get_or, take, length, refl, sym, ap, subst, inl, inr, arith}
use Rattle.std.proofs.lemmas.Bool.{cases_Bool, cases_eq, cases_order}
use Rattle.std.proofs.lemmas.Bool.Decides.{nat_tests}
use Rattle.std.proofs.lemmas.Grind.{get_or-set_at}
use Rattle.std.proofs.lemmas.List.{get_or-map, get_or-set_other, get_or-take, length-map, length-set, length-take, map-set, set-get_or}
use Rattle.std.specs.Option.{option_map_or}
use Rattle.mr_base.specs.declared.ids.NodeId.{NodeId}
use Rattle.mr_base.specs.declared.ids.RangeId.{RangeId}
use Rattle.node_states.specs.Stage.{AreNumbered, range_setup}
use Rattle.node_states.specs.declared.stage.RangePlan.{RangePlan}
use Rattle.range_log.specs.declared.entries.Entry.{Entry}
use Rattle.range_replicas.specs.RangeValue.{RangeValue, replicas}
use Rattle.range_replicas.specs.Sound.{IsSound}
use Rattle.range_server.specs.declared.standing.Standing.{Standing}
use Rattle.replica_states.specs.RangeTies.{AreRangesTied, IsRangeTied, planned}
use Rattle.run_words.specs.Ranges.{has_number}
use Rattle.run_words.specs.Setup.{RangeSetup}

-- ---- lists

-- what is so of an element that is written and of each other one is so of all
pub all_set : {X : Type 0} (P : X → Type 0) (xs : List X) (i : ℕ) (y : X) → i < length xs → P y
    → ((k : ℕ) (d : X) → k < length xs → k ≢ i → P (get_or xs k d)) → All P (set xs i y)
all_set P xs i y within p others = λ k d h.
    let long : k < length xs = subst (λ (n : ℕ). k < n) (length-set xs i y) h in
    elim (cases_eq k i) as (λ _. P (get_or (set xs i y) k d)) [
      | inl e ↦ subst P (sym (get_or-set_at xs i k y d e within)) p
      | inr n ↦ subst P (sym (get_or-set_other xs i k y d n)) (others k d long n)
    ]

pub numbered_at : (from : ℕ) (ns : List ℕ) (k d : ℕ) → AreNumbered from ns → k < length ns → get_or ns k d ≡ from + k + 1
numbered_at from [] k d a h = absurd (let no : ⊥ = omega (arith, h) in no)
numbered_at from (n ∷ ns) zero d a h = a.0 ∙ omega arith
numbered_at from (n ∷ ns) (suc k) d a h =
    let rest : get_or ns k d ≡ from + 1 + k + 1 = numbered_at (from + 1) ns k d a.1 (omega (arith, h)) in
    rest ∙ omega arith

same_number : (a b : ℕ) → a ≡ b → (a == b) ≡ true
same_number a b e = grind (arith, nat_tests)

other_number : (a b : ℕ) → a ≢ b → (a == b) ≡ false
other_number a b n = elim (cases_Bool (a == b)) as (λ _. (a == b) ≡ false) [
  | inl t ↦ absurd (n (let e : a ≡ b = grind (arith, nat_tests) in e))
  | inr f ↦ f
]

-- ---- plans

abbrev pub numbers : List RangeSetup → List ℕ
numbers plans = map (λ p. p.number.0) plans

pub setup_numbers : (plans : List RangePlan) → numbers (map range_setup plans) ≡ map (λ plan. plan.number.0) plans
setup_numbers [] = refl
setup_numbers (plan ∷ plans) = ap (λ (ns : List ℕ). plan.number.0 ∷ ns) (setup_numbers plans)

-- the plan of a number is found at its place
pub plan_found : (from : ℕ) (plans : List RangeSetup) (j : RangeId) (k : ℕ) (d : RangeSetup) → AreNumbered from (numbers plans) → k < length plans
    → j.0 ≡ from + k + 1 → find (has_number j) plans ≡ Some (get_or plans k d)
plan_found from [] j k d a h e = absurd (let no : ⊥ = omega (arith, h) in no)
plan_found from (p ∷ plans) j zero d a h e =
    let same : p.number.0 ≡ j.0 = omega (arith, a.0, e) in
    ap (λ (b : Bool). cond b (Some p) (find (has_number j) plans)) (same_number p.number.0 j.0 same)
plan_found from (p ∷ plans) j (suc k) d a h e =
    let apart : p.number.0 ≢ j.0 = (λ same. let no : ⊥ = omega (arith, a.0, e, same) in no) in
    ap (λ (b : Bool). cond b (Some p) (find (has_number j) plans)) (other_number p.number.0 j.0 apart)
    ∙ plan_found (from + 1) plans j k d a.1 (omega (arith, h)) (omega (arith, e))

-- ---- ranges that are tied

module _ (log : RangeId → List Entry) (applied : NodeId → RangeId → ℕ) (boot : NodeId → ℕ) (plans : List RangeSetup) (ranges : List RangeValue)
    (numbered : AreNumbered 0 (numbers plans)) (tied : AreRangesTied log applied boot plans ranges) where
  -- no more ranges are made than are planned
  pub made_within : length ranges ≤ length plans
  made_within = omega (arith, ap length tied.plans_are, length-map ranges planned, length-take (length ranges) plans)

  -- a range is as it was planned
  pub plan_at : (k : ℕ) (d : RangeValue) → k < length ranges → planned (get_or ranges k d) ≡ get_or plans k (planned d)
  plan_at k d h =
      sym (get_or-map planned ranges k d (planned d) h) ∙ ap (λ (x : List RangeSetup). get_or x k (planned d)) tied.plans_are
      ∙ get_or-take (length ranges) plans k (planned d) h

  -- the ranges stand in the order of their numbers
  pub number_at : (k : ℕ) (d : RangeValue) → k < length ranges → (get_or ranges k d).number.0 ≡ k + 1
  number_at k d h =
      let within : k < length plans = omega (arith, made_within, h) in
      let long : k < length (numbers plans) = omega (arith, within, length-map plans (λ (p : RangeSetup). p.number.0)) in
      let at : get_or (numbers plans) k 0 ≡ (get_or plans k (planned d)).number.0 = get_or-map (λ (p : RangeSetup). p.number.0) plans k (planned d) 0 within in
      ap (λ (p : RangeSetup). p.number.0) (plan_at k d h) ∙ sym at ∙ numbered_at 0 (numbers plans) k 0 numbered long ∙ omega arith

  -- where a range of a number stands
  pub place_made : (j : RangeId) → log j ≢ [] → j.0 - 1 < length ranges
  place_made j made = let h = tied.made j made in omega (arith, h.0, h.1)

  pub number_made : (j : RangeId) (d : RangeValue) → log j ≢ [] → (get_or ranges (j.0 - 1) d).number ≡ j
  number_made j d made =
      let h = tied.made j made in
      let e : (get_or ranges (j.0 - 1) d).number.0 ≡ j.0 = omega (arith, number_at (j.0 - 1) d (place_made j made), h.0) in
      ap (λ (n : ℕ). record { 0 = n }) e

  pub plan_made : (j : RangeId) (d : RangeValue) → log j ≢ [] → find (has_number j) plans ≡ Some (planned (get_or ranges (j.0 - 1) d))
  plan_made j d made =
      let h = tied.made j made in
      let place = place_made j made in
      plan_found 0 plans j (j.0 - 1) (planned d) numbered (omega (arith, place, made_within)) (omega (arith, h.0))
      ∙ ap (λ (p : RangeSetup). Some p) (sym (plan_at (j.0 - 1) d place))

  -- a node that holds a replica of it by the setup is among its replicas
  pub replica_made : (j : RangeId) (n : NodeId) (d : RangeValue) → log j ≢ []
      → Contains (option_map_or (λ (p : RangeSetup). p.voters ++ p.others) (find (has_number j) plans) []) n → Contains (replicas (get_or ranges (j.0 - 1) d)) n
  replica_made j n d made c =
      subst (λ (o : Option RangeSetup). Contains (option_map_or (λ (p : RangeSetup). p.voters ++ p.others) o []) n) (plan_made j d made) c

  pub tied_made : (j : RangeId) (d : RangeValue) → log j ≢ [] → IsRangeTied log applied boot (get_or ranges (j.0 - 1) d)
  tied_made j d made = tied.each (j.0 - 1) d (place_made j made)

  -- one range is changed, and the words say nothing new of the others
  pub range_changes : (k : ℕ) (d r : RangeValue) (log2 : RangeId → List Entry) (applied2 : NodeId → RangeId → ℕ) → k < length ranges
      → planned r ≡ planned (get_or ranges k d) → IsRangeTied log2 applied2 boot r
      → ((j : RangeId) → j.0 ≢ k + 1 → log2 j ≡ log j) → ((n : NodeId) (j : RangeId) → j.0 ≢ k + 1 → applied2 n j ≡ applied n j)
      → AreRangesTied log2 applied2 boot plans (set ranges k r)
  range_changes k d r log2 applied2 within same changed logs counts =
      let others : (i : ℕ) (e : RangeValue) → i < length ranges → i ≢ k → IsRangeTied log2 applied2 boot (get_or ranges i e)
      = λ i e h n.
      let old = tied.each i e h in
      let apart : (get_or ranges i e).number.0 ≢ k + 1 = (λ at. n (let x : i ≡ k = omega (arith, at, number_at i e h) in x)) in
      record {
        sound = old.sound;
        log_is = old.log_is ∙ sym (logs (get_or ranges i e).number apart);
        servers_are = λ p s hp. record {
          applied_is = (old.servers_are p s hp).applied_is ∙ sym (counts (get_or (get_or ranges i e).servers p s).node (get_or ranges i e).number apart);
          boot_is = (old.servers_are p s hp).boot_is;
        };
      }
      in
      let plans_same : map planned (set ranges k r) ≡ map planned ranges
      = map-set planned ranges k r ∙ ap (λ (p : RangeSetup). set (map planned ranges) k p)
      (same ∙ sym (get_or-map planned ranges k d (planned d) within)) ∙ set-get_or (map planned ranges) k (planned d) in
      record {
        each = all_set (IsRangeTied log2 applied2 boot) ranges k r within changed others;
        plans_are = plans_same ∙ tied.plans_are ∙ ap (λ (n : ℕ). take n plans) (sym (length-set ranges k r));
        made = λ j some. elim (cases_eq j.0 (k + 1)) as (λ _. (1 ≤ j.0) × (j.0 ≤ length (set ranges k r))) [
          | inl e ↦ (omega (arith, e), omega (arith, e, within, length-set ranges k r))
          | inr n ↦
              let old = tied.made j (λ none. some (logs j n ∙ none)) in
              (old.0, omega (arith, old.1, length-set ranges k r))
        ];
      }

-- two replicas of a range are at different nodes
pub nodes_apart : (r : RangeValue) (k p : ℕ) (d e : Standing) → IsSound r → k < length r.servers → p < length r.servers → k ≢ p
    → (get_or r.servers k d).node ≢ (get_or r.servers p e).node
nodes_apart r k p d e sound h w n same =
    let node : Standing → NodeId = λ s. s.node in
    let nodes : AllPairs ◌≢◌ (map node r.servers) = subst (λ (x : List NodeId). AllPairs ◌≢◌ x) (sym sound.nodes) sound.distinct in
    let at_k : get_or (map node r.servers) k d.node ≡ (get_or r.servers k d).node = get_or-map node r.servers k d d.node h in
    let at_p : get_or (map node r.servers) p d.node ≡ (get_or r.servers p e).node = get_or-map node r.servers p e d.node w in
    let one : get_or (map node r.servers) k d.node ≡ get_or (map node r.servers) p d.node = at_k ∙ same ∙ sym at_p in
    let long : length (map node r.servers) ≡ length r.servers = length-map r.servers node in
    elim (cases_order k p) as (λ _. ⊥) [
      | inl b ↦ n b
      | inr (inl b) ↦ nodes k p d.node b (omega (arith, long, w)) one
      | inr (inr b) ↦ nodes p k d.node b (omega (arith, long, h)) (sym one)
    ]
