-- When a majority of a range's voters runs.
use Rattle.std.proofs.Common.{◌≡◌, ◌≢◌, ℕ, zero, suc, ◌∷◌, ◌<◌, ◌+◌, ◌-◌, ◌≤◌, ◌*◌, Bool, true, List, ◌++◌, length, get_or, refl, sym, ap, ◌∙◌, subst, arith, Some}
use Rattle.std.specs.Prelude.{◌↔◌, AllPairs, IsTrue}
use Rattle.std.specs.List.{All, filter}
use Rattle.std.specs.Option.{option_map_or}
use Rattle.mr_base.specs.Nodes.{IsMember, IsNode}
use Rattle.mr_base.specs.declared.ids.NodeId.{NodeId}
use Rattle.mr_base.specs.declared.ids.RangeId.{RangeId}
use Rattle.mr_base.specs.declared.nodes.NodeSet.{NodeSet}
use Rattle.range_log.specs.Appends.{has_majority}
use Rattle.range_replicas.specs.RangeValue.{RangeValue, replicas}
use Rattle.range_replicas.specs.Sound.{IsSound}
use Rattle.range_replicas.specs.Voters.{MajorityIsMoreThanHalf, set_of}
use Rattle.run_words.specs.History.{History}
use Rattle.run_words.specs.Nodes.{is_running}
use Rattle.run_words.specs.Ranges.{HasQuorum, voters_of}
use Rattle.cluster_state.proofs.NodeAt.{id_at, is_inside}
use Rattle.cluster_state.specs.Tied.{IsThere, IsTiedTo, the_setup}
use Rattle.cluster_state.specs.declared.state.State.{State}
use Rattle.std.proofs.Common.{[], false, length-append}
use Rattle.std.specs.Prelude.{Option}
use Rattle.std.specs.List.{Contains, find}
use Rattle.std.proofs.lemmas.List.{get_or_append_left}
use Rattle.node_states.specs.declared.states.NodeState.{NodeState}
use Rattle.replica_states.proofs.RangeLemmas.{plan_made}
use Rattle.replica_states.specs.RangeTies.{planned}
use Rattle.run_words.specs.Logs.{applied, log_of}
use Rattle.run_words.specs.Nodes.{boot}
use Rattle.run_words.specs.Ranges.{has_number, is_global, replicas_of}
use Rattle.run_words.specs.Setup.{RangeSetup}
use Rattle.cluster_state.proofs.NodeAt.{runs_at}
use Rattle.cluster_state.proofs.RangeLemmas.{numbered, range_tied}
use Rattle.cluster_state.proofs.ReplicaThere.{replica_there}

any_at : {X : Type 0} (xs : List X) (i : ℕ) (d e : X) → i < length xs → get_or xs i d ≡ get_or xs i e
any_at [] i d e l = absurd (omega (arith, l))
any_at (x ∷ xs) zero d e l = refl
any_at (x ∷ xs) (suc i) d e l = any_at xs i d e (omega (arith, l))

front_at : {X : Type 0} (xs ys : List X) (k : ℕ) (d : X) → k < length xs → get_or (xs ++ ys) k d ≡ get_or xs k d
front_at xs ys k d l = get_or_append_left xs ys d k l

pub front_all : {X : Type 0} (P : X → Type 0) (xs ys : List X) → All P (xs ++ ys) → All P xs
front_all P xs ys all = λ k d l. subst P (front_at xs ys k d l) (all k d (omega (arith, l, length-append xs ys)))

front_pairs : {X : Type 0} (R : X → X → Type 0) (xs ys : List X) → AllPairs R (xs ++ ys) → AllPairs R xs
front_pairs {X} R xs ys pairs = λ i j d less l.
    let q : R (get_or (xs ++ ys) i d) (get_or (xs ++ ys) j d) = pairs i j d less (omega (arith, l, length-append xs ys)) in
    subst (λ (x : X). R (get_or xs i d) x) (front_at xs ys j d l) (subst (λ (x : X). R x (get_or (xs ++ ys) j d)) (front_at xs ys i d (omega (arith, less, l))) q)

-- a node that is there is in the set of those that run where it runs
pub among : (s : State) (h : History) (n : NodeId) (d : NodeState) → IsTiedTo h s → IsThere s.stage n → IsTrue (is_running (the_setup s) h n) ↔ IsMember s.running n
among s h n d t there =
    let node : NodeState = get_or s.nodes.items (n.0 - 1) d in
    let inside : n.0 - 1 < length s.nodes.items = is_inside s h n t there in
    let is : node ≡ get_or s.nodes.items (n.0 - 1) node = sym (any_at s.nodes.items (n.0 - 1) node d inside) in
    let id : node.id ≡ n = id_at s h n node t there is in
    let runs : node.runs ≡ is_running (the_setup s) h n = runs_at s h n node t there is in
    let both : IsMember s.running node.id ↔ (node.runs ≡ true) = t.nodes_are.running_are (n.0 - 1) d inside in (
      λ up. subst (λ (m : NodeId). IsMember s.running m) id (both.1 (runs ∙ up)),
      λ member. sym runs ∙ both.0 (subst (λ (m : NodeId). IsMember s.running m) (sym id) member),
    )

-- where a majority of a range's voters runs, it has a quorum
pub quorum_of : (law : MajorityIsMoreThanHalf) (s : State) (h : History) (j : RangeId) (r : RangeValue) (d : NodeState) → IsTiedTo h s → log_of (the_setup s) h j ≢ []
    → r ≡ get_or s.ranges.items (j.0 - 1) r → has_majority r.log.voters s.running ≡ true → HasQuorum (the_setup s) h j
quorum_of law s h j r d t made is most =
    let sound : IsSound r = (range_tied s h t j made r is).sound in
    let plan : find (has_number j) (the_setup s).ranges ≡ Some (planned r) =
    plan_made (log_of (the_setup s) h) (applied (the_setup s) h) (boot (the_setup s) h) (the_setup s).ranges s.ranges.items (numbered s h t) t.ranges_are j r made
    ∙ ap (λ (x : RangeValue). Some (planned x)) (sym is) in
    let voters : voters_of (the_setup s) h j ≡ r.voters = ap (λ (o : Option RangeSetup). option_map_or (λ range. range.voters) o []) plan in
    let held : replicas_of (the_setup s) h j ≡ r.voters ++ r.others = ap (λ (o : Option RangeSetup). option_map_or (λ range. range.voters ++ range.others) o []) plan in
    let runs : All (λ (n : NodeId). IsTrue (is_running (the_setup s) h n) ↔ IsMember s.running n) r.voters =
    λ k e l.
    let n : NodeId = get_or r.voters k e in
    let inside : k < length (r.voters ++ r.others) = omega (arith, l, length-append r.voters r.others) in
    let at : get_or (r.voters ++ r.others) k n ≡ n = front_at r.voters r.others k n l ∙ any_at r.voters k n e l in
    let holds : Contains (replicas_of (the_setup s) h j) n = subst (λ (ns : List NodeId). Contains ns n) (sym held) (k, inside, at) in
    among s h n d t (replica_there s.stage h n j t.staged holds) in
    let half : length r.voters < 2 * length (filter (is_running (the_setup s) h) r.voters) =
    (law r.voters (is_running (the_setup s) h) s.running (front_all IsNode r.voters r.others sound.numbered) (front_pairs ◌≢◌ r.voters r.others sound.distinct) runs).0
    (ap (λ (v : NodeSet). has_majority v s.running) (sym sound.voters) ∙ most) in
    subst (λ (ns : List NodeId). length ns < 2 * length (filter (is_running (the_setup s) h) ns)) (sym voters) half

-- the range of a number is planned as it has been made
module _ (s : State) (h : History) (t : IsTiedTo h s) (j : RangeId) (made : log_of (the_setup s) h j ≢ []) (r : RangeValue) (is : r ≡ get_or s.ranges.items (j.0 - 1) r) where
  pub planned_at : find (has_number j) (the_setup s).ranges ≡ Some (planned r)
  planned_at =
      plan_made (log_of (the_setup s) h) (applied (the_setup s) h) (boot (the_setup s) h) (the_setup s).ranges s.ranges.items (numbered s h t) t.ranges_are j r made
      ∙ ap (λ (x : RangeValue). Some (planned x)) (sym is)

  pub voters_at : voters_of (the_setup s) h j ≡ r.voters
  voters_at = ap (λ (o : Option RangeSetup). option_map_or (λ range. range.voters) o []) planned_at

  pub global_at : is_global (the_setup s) h j ≡ r.is_global
  global_at = ap (λ (o : Option RangeSetup). option_map_or (λ range. range.is_global) o false) planned_at

  pub voter_among : (d : NodeState) (n : NodeId) → Contains (voters_of (the_setup s) h j) n → (is_running (the_setup s) h n ≡ true) ↔ IsMember s.running n
  voter_among d n c =
      let v : Contains r.voters n = subst (λ (ns : List NodeId). Contains ns n) voters_at c in
      let inside : v.0 < length (r.voters ++ r.others) = omega (arith, v.1, length-append r.voters r.others) in
      let held : replicas_of (the_setup s) h j ≡ r.voters ++ r.others = ap (λ (o : Option RangeSetup). option_map_or (λ range. range.voters ++ range.others) o []) planned_at in
      let holds : Contains (replicas_of (the_setup s) h j) n =
      subst (λ (ns : List NodeId). Contains ns n) (sym held) (v.0, inside, front_at r.voters r.others v.0 n v.1 ∙ v.2) in
      among s h n d t (replica_there s.stage h n j t.staged holds)
