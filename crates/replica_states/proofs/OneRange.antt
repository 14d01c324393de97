-- One range is changed at one replica.
use Rattle.std.proofs.Common.{◌≡◌, ◌≢◌, ℕ, zero, suc, ◌<◌, ◌+◌, ◌≤◌, List, [], ◌∷◌, length, take, get_or, set, map, refl, sym, ap, ◌∙◌, subst, arith, ⊎_elim}
use Rattle.std.specs.Prelude.{◌⊎◌, AllPairs}
use Rattle.std.specs.List.{All}
use Rattle.std.proofs.lemmas.List.{get_or-map, get_or-set_other, get_or-set_same, length-map, length-set}
use Rattle.mr_base.specs.declared.ids.NodeId.{NodeId}
use Rattle.mr_base.specs.declared.ids.RangeId.{RangeId}
use Rattle.node_states.specs.Stage.{AreNumbered, IsStage, range_setup, setup_of}
use Rattle.node_states.specs.declared.stage.RangePlan.{RangePlan}
use Rattle.node_states.specs.declared.stage.Stage.{Stage}
use Rattle.range_log.specs.LogValue.{LogValue}
use Rattle.range_log.specs.declared.entries.Entry.{Entry}
use Rattle.range_replicas.specs.RangeValue.{RangeValue}
use Rattle.range_replicas.specs.Sound.{IsSound}
use Rattle.range_server.specs.declared.standing.Standing.{Standing}
use Rattle.replica_states.specs.RangeTies.{AreRangesTied, IsRangeTied, IsReplicaTied, planned}
use Rattle.run_words.specs.Setup.{RangeSetup}

same_or_not : (k p : ℕ) → (k ≡ p) ⊎ (k ≢ p)
same_or_not k p = grind arith

pub all_set : {X : Type 0} (P : X → Type 0) (xs : List X) (i : ℕ) (v : X) → i < length xs → P v
    → ((k : ℕ) (e : X) → k < length xs → k ≢ i → P (get_or xs k e)) → All P (set xs i v)
all_set {X} P xs i v l p others = λ k e lt.
    let inside : k < length xs = omega (arith, lt, length-set xs i v) in
    ⊎_elim
    (λ same. subst P (sym (get_or-set_same xs i v e l) ∙ ap (λ (n : ℕ). get_or (set xs i v) n e) (sym same)) p)
    (λ other. subst P (sym (get_or-set_other xs i k v e other)) (others k e inside other))
    (same_or_not k i)

-- the numbers of ranges
numbers_front : (k n : ℕ) (plans : List RangePlan) (ranges : List RangeValue) → AreNumbered k (map (λ (p : RangePlan). p.number.0) plans)
    → map planned ranges ≡ take n (map range_setup plans) → AreNumbered k (map (λ (r : RangeValue). r.number.0) ranges)
numbers_front k n plans [] a e = tt
numbers_front k zero plans (r ∷ ranges) a e = absurd (cc)
numbers_front k (suc n) [] (r ∷ ranges) a e = absurd (cc)
numbers_front k (suc n) (p ∷ plans) (r ∷ ranges) a e =
    let first : planned r ≡ range_setup p = ap (λ (xs : List RangeSetup). get_or xs 0 (planned r)) e in
    let rest : map planned ranges ≡ take n (map range_setup plans) = ap tail e in
    (ap (λ (x : RangeSetup). x.number.0) first ∙ a.0, numbers_front (k + 1) n plans ranges a.1 rest)
  where
    tail : List RangeSetup → List RangeSetup
    tail [] = []
    tail (x ∷ xs) = xs

pub ranges_numbered : (stage : Stage) (ranges : List RangeValue) → IsStage stage → map planned ranges ≡ take (length ranges) (setup_of stage).ranges
    → AreNumbered 0 (map (λ (r : RangeValue). r.number.0) ranges)
ranges_numbered stage ranges staged e = numbers_front 0 (length ranges) stage.ranges ranges staged.numbered e

pub range_number_at : (j : ℕ) (ranges : List RangeValue) (k : ℕ) (d : RangeValue) → AreNumbered j (map (λ (r : RangeValue). r.number.0) ranges) → k < length ranges
    → (get_or ranges k d).number.0 ≡ j + k + 1
range_number_at j [] k d a l = absurd (omega (arith, l))
range_number_at j (r ∷ ranges) zero d a l = omega (arith, a.0)
range_number_at j (r ∷ ranges) (suc k) d a l =
    let e : (get_or ranges k d).number.0 ≡ (j + 1) + k + 1 = range_number_at (j + 1) ranges k d a.1 (omega (arith, l)) in omega (arith, e)

-- two servers of a range are of different nodes
abbrev node_number : ℕ → NodeId
node_number k = record { 0 = k }

pairs_apart : (nodes : List NodeId) (i j : ℕ) (d : NodeId) → AllPairs ◌≢◌ nodes → i ≢ j → i < length nodes → j < length nodes → get_or nodes i d ≢ get_or nodes j d
pairs_apart nodes i j d pairs ne li lj e =
    ⊎_elim (λ less. pairs i j d less lj e) (λ more. pairs j i d more li (sym e)) (apart_order i j ne)
  where
    apart_order : (i j : ℕ) → i ≢ j → (i < j) ⊎ (j < i)
    apart_order i j ne = grind (arith, ne)

pub other_node : (r : RangeValue) (p k : ℕ) (d e : Standing) → IsSound r → p < length r.servers → k < length r.servers → k ≢ p
    → (get_or r.servers k e).node.0 ≢ (get_or r.servers p d).node.0
other_node r p k d e sound lp lk ne same =
    let nodes : List NodeId = map (λ (s : Standing). s.node) r.servers in
    let count : length nodes ≡ length r.servers = length-map r.servers (λ (s : Standing). s.node) in
    let pairs : AllPairs ◌≢◌ nodes = subst (λ (xs : List NodeId). AllPairs ◌≢◌ xs) (sym sound.nodes) sound.distinct in
    let at_k : get_or nodes k d.node ≡ (get_or r.servers k e).node = get_or-map (λ (s : Standing). s.node) r.servers k e d.node lk in
    let at_p : get_or nodes p d.node ≡ (get_or r.servers p d).node = get_or-map (λ (s : Standing). s.node) r.servers p d d.node lp in
    pairs_apart nodes k p d.node pairs ne (omega (arith, count, lk)) (omega (arith, count, lp)) (at_k ∙ ap node_number same ∙ sym at_p)

planned_set : (ranges : List RangeValue) (i : ℕ) (d r : RangeValue) → i < length ranges → planned r ≡ planned (get_or ranges i d)
    → map planned (set ranges i r) ≡ map planned ranges
planned_set [] i d r l e = refl
planned_set (x ∷ ranges) zero d r l e = ap (λ (p : RangeSetup). p ∷ map planned ranges) e
planned_set (x ∷ ranges) (suc i) d r l e = ap (λ (ps : List RangeSetup). planned x ∷ ps) (planned_set ranges i d r (omega (arith, l)) e)

abbrev changed_at : RangeValue → ℕ → LogValue → Standing → RangeValue
changed_at r p log s = record r { log = log; servers = set r.servers p s }

-- a range changes at one replica and in its log, and all stays tied
pub one_changed : (log new : RangeId → List Entry) (applied now : NodeId → RangeId → ℕ) (boot : NodeId → ℕ) (plans : List RangeSetup) (ranges : List RangeValue) (i p : ℕ)
    (d : RangeValue) (c : Standing) (l : LogValue) (s : Standing)
    → AreRangesTied log applied boot plans ranges → AreNumbered 0 (map (λ (r : RangeValue). r.number.0) ranges) → i < length ranges → p < length (get_or ranges i d).servers
    → IsSound (changed_at (get_or ranges i d) p l s) → s.node ≡ (get_or (get_or ranges i d).servers p c).node
    → IsReplicaTied now boot (get_or ranges i d).number s → l.entries ≡ new (get_or ranges i d).number → log (get_or ranges i d).number ≢ []
    → ((k : RangeId) → k.0 ≢ (get_or ranges i d).number.0 → new k ≡ log k)
    → ((n : NodeId) (k : RangeId) → k.0 ≢ (get_or ranges i d).number.0 → now n k ≡ applied n k)
    → ((n : NodeId) → n.0 ≢ s.node.0 → now n (get_or ranges i d).number ≡ applied n (get_or ranges i d).number)
    → AreRangesTied new now boot plans (set ranges i (changed_at (get_or ranges i d) p l s))
one_changed log new applied now boot plans ranges i p d c l s t numbered li lp sound node tied log_is begun logs others here =
    let r : RangeValue = get_or ranges i d in
    let old : IsRangeTied log applied boot r = t.each i d li in
    record {
      each = all_set (IsRangeTied new now boot) ranges i (changed_at r p l s) li
          (record {
            sound = sound;
            log_is = log_is;
            servers_are = all_set (IsReplicaTied now boot r.number) r.servers p s lp tied
                (λ k e lk ne.
                let x : Standing = get_or r.servers k e in
                let was : IsReplicaTied applied boot r.number x = old.servers_are k e lk in
                let apart : x.node.0 ≢ s.node.0 = λ q. other_node r p k c e old.sound lp lk ne (q ∙ ap (λ (n : NodeId). n.0) node) in
                record { applied_is = was.applied_is ∙ sym (here x.node apart); boot_is = was.boot_is });
          })
          (λ k e lk ne.
          let x : RangeValue = get_or ranges k e in
          let was : IsRangeTied log applied boot x = t.each k e lk in
          let at_k : x.number.0 ≡ 0 + k + 1 = range_number_at 0 ranges k e numbered lk in
          let at_i : r.number.0 ≡ 0 + i + 1 = range_number_at 0 ranges i d numbered li in
          let apart : x.number.0 ≢ r.number.0 = λ q. ne (omega (arith, at_k, at_i, q)) in
          record {
            sound = was.sound;
            log_is = was.log_is ∙ sym (logs x.number apart);
            servers_are = λ m b lm.
                let y : IsReplicaTied applied boot x.number (get_or x.servers m b) = was.servers_are m b lm in
                record { applied_is = y.applied_is ∙ sym (others (get_or x.servers m b).node x.number apart); boot_is = y.boot_is };
          });
      plans_are = planned_set ranges i d (changed_at r p l s) li refl ∙ t.plans_are ∙ ap (λ (k : ℕ). take k plans) (sym (length-set ranges i (changed_at r p l s)));
      made = λ j some.
          let inside : (1 ≤ j.0) × (j.0 ≤ length ranges) = ⊎_elim
          (λ same. subst (λ (k : ℕ). (1 ≤ k) × (k ≤ length ranges)) (sym same) (t.made r.number begun))
          (λ other. t.made j (λ q. some (logs j other ∙ q)))
          (same_or_not j.0 r.number.0) in
          (inside.0, omega (arith, inside.1, length-set ranges i (changed_at r p l s)));
    }
