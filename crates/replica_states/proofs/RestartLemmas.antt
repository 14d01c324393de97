-- The servers of a node that starts.
use Rattle.std.proofs.Common.{◌≡◌, ◌≢◌, ◌<◌, ◌∙◌, ◌==◌, ℕ, Bool, true, false, List, Contains, map, set, get_or, length, refl, sym, ap, subst, inl, inr, arith}
use Rattle.std.specs.Prelude.{if◌then◌else◌}
use Rattle.std.proofs.lemmas.Bool.{cases_Bool, cases_eq}
use Rattle.std.proofs.lemmas.Bool.Decides.{nat_tests}
use Rattle.std.proofs.lemmas.Grind.{get_or-set_at}
use Rattle.std.proofs.lemmas.List.{get_or-map, get_or-set_other, length-map, length-set, same_lists}
use Rattle.closed_ts.specs.Targets.{at_wall}
use Rattle.mr_base.specs.declared.ids.NodeId.{NodeId}
use Rattle.range_replicas.specs.RangeValue.{RangeValue, nobody, replicas, server_at}
use Rattle.range_replicas.specs.Sound.{IsSound}
use Rattle.range_server.specs.Seen.{nothing_above}
use Rattle.range_server.specs.declared.standing.Standing.{Standing}
use Rattle.replica_states.proofs.OneRange.{other_node}
use Rattle.replica_states.specs.Restarts.{restarted, restarted_server}

abbrev number : ℕ → NodeId
number k = record { 0 = k }

same_test : (a b : ℕ) → a ≡ b → (a == b) ≡ true
same_test a b e = grind (arith, nat_tests)

other_test : (a b : ℕ) → a ≢ b → (a == b) ≡ false
other_test a b n = elim (cases_Bool (a == b)) as (λ _. (a == b) ≡ false) [
  | inl t ↦ absurd (n (let e : a ≡ b = grind (arith, nat_tests) in e))
  | inr f ↦ f
]

abbrev pub renewed : ℕ → Standing → Standing
renewed boot s = record s { boot = boot; cache = nothing_above (at_wall 0) }

with_test : (b : Bool) (boot : ℕ) (s : Standing) → b ≡ true → (if b then renewed boot s else s) ≡ renewed boot s
with_test true boot s e = refl
with_test false boot s e = absurd (let no : ⊥ = cc in no)

without_test : (b : Bool) (boot : ℕ) (s : Standing) → b ≡ false → (if b then renewed boot s else s) ≡ s
without_test false boot s e = refl
without_test true boot s e = absurd (let no : ⊥ = cc in no)

here : (node : NodeId) (boot : ℕ) (s : Standing) → s.node ≡ node → restarted_server node boot s ≡ renewed boot s
here node boot s e = with_test (s.node.0 == node.0) boot s (same_test s.node.0 node.0 (ap (λ (n : NodeId). n.0) e))

elsewhere : (node : NodeId) (boot : ℕ) (s : Standing) → s.node.0 ≢ node.0 → restarted_server node boot s ≡ s
elsewhere node boot s n = without_test (s.node.0 == node.0) boot s (other_test s.node.0 node.0 n)

-- a node that holds no replica
pub none_restarted : (node : NodeId) (boot : ℕ) (r : RangeValue) → IsSound r → ¬ Contains (replicas r) node → r ≡ restarted node boot r
none_restarted node boot r sound none =
    let at : Standing → NodeId = λ s. s.node in
    let same : r.servers ≡ map (restarted_server node boot) r.servers
    = same_lists r.servers (map (restarted_server node boot) r.servers) (sym (length-map r.servers (restarted_server node boot)))
    (λ k d h.
    let apart : (get_or r.servers k d).node.0 ≢ node.0
    = λ e. none (subst (λ (ns : List NodeId). Contains ns node) sound.nodes
    (k, omega (arith, h, length-map r.servers at), get_or-map at r.servers k d node h ∙ ap number e)) in
    sym (get_or-map (restarted_server node boot) r.servers k d d h ∙ elsewhere node boot (get_or r.servers k d) apart)) in
    ap (λ (xs : List Standing). record r { servers = xs }) same

-- the node of one replica
pub one_restarted : (boot : ℕ) (node : NodeId) (r new : RangeValue) (place : ℕ) (s : Standing) → IsSound r → place < length r.servers → (server_at place r).node ≡ node
    → s ≡ renewed boot (server_at place r) → new ≡ record r { servers = set r.servers place s } → new ≡ restarted node boot r
one_restarted boot node r new place s sound within at is changed =
    let same : set r.servers place s ≡ map (restarted_server node boot) r.servers
    = same_lists (set r.servers place s) (map (restarted_server node boot) r.servers) (length-set r.servers place s ∙ sym (length-map r.servers (restarted_server node boot)))
    (λ k d h.
    let long : k < length r.servers = subst (λ (n : ℕ). k < n) (length-set r.servers place s) h in
    let mapped : get_or (map (restarted_server node boot) r.servers) k d ≡ restarted_server node boot (get_or r.servers k d)
    = get_or-map (restarted_server node boot) r.servers k d d long in
    elim (cases_eq k place) as (λ _. get_or (set r.servers place s) k d ≡ get_or (map (restarted_server node boot) r.servers) k d) [
      | inl e ↦
          let first : get_or r.servers k nobody ≡ get_or r.servers place nobody = ap (λ (n : ℕ). get_or r.servers n nobody) e in
          let mapped2 : get_or (map (restarted_server node boot) r.servers) k d ≡ restarted_server node boot (get_or r.servers k nobody)
          = get_or-map (restarted_server node boot) r.servers k nobody d long in
          get_or-set_at r.servers place k s d e within ∙ is ∙ sym (here node boot (server_at place r) at)
          ∙ ap (restarted_server node boot) (sym first) ∙ sym mapped2
      | inr n ↦
          get_or-set_other r.servers place k s d n
          ∙ sym (mapped ∙ elsewhere node boot (get_or r.servers k d) (λ e. other_node r place k nobody d sound within long n (e ∙ ap (λ (m : NodeId). m.0) (sym at))))
    ]) in
    changed ∙ ap (λ (xs : List Standing). record r { servers = xs }) same
