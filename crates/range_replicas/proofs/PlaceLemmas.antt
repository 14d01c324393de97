-- The place of a node's replica, and the servers of a range that begins.
use Rattle.std.proofs.Common.{◌≡◌, ◌≢◌, ◌⊎◌, ◌<◌, ◌≤◌, ◌+◌, ◌∙◌, ◌++◌, ◌==◌, ℕ, Bool, true, false, List, [], ◌∷◌, Option, None, Some, IsSome, IfSome, MatchOption, All, AllPairs, Contains, map, get_or, take, length, position, refl, sym, ap, subst, inl, inr, arith}
use Rattle.std.proofs.lemmas.Bool.{cases_eq, cases_lt, cond_below}
use Rattle.std.proofs.lemmas.Bool.Decides.{nat_tests}
use Rattle.std.proofs.lemmas.List.{get_or-map, get_or_append_left, get_or_default, length-map, map_push, take_more}
use Rattle.std.proofs.lemmas.List.Elements.{All-nil, All-push, All-weaker}
use Rattle.std.proofs.lemmas.List.Quantifiers.{position-Some}
use Rattle.std.proofs.lemmas.List.Sums.{fails_before_first}
use Rattle.std.specs.List.{position_or_len}
use Rattle.mr_base.specs.Nodes.{IsNode}
use Rattle.mr_base.specs.declared.ids.NodeId.{NodeId}
use Rattle.mvcc_range.specs.Follows.{Follows}
use Rattle.range_log.specs.Facts.{first_entries, lease_of}
use Rattle.range_log.specs.declared.entries.Entry.{Entry}
use Rattle.range_log.specs.declared.entries.Entry.TheVariants as log
use Rattle.range_log.specs.declared.entries.Lease.{Lease}
use Rattle.range_replicas.proofs.LogLemmas.{all_first}
use Rattle.range_replicas.specs.Beginning.{AreServersOf, HasBegun, IsServerOf}
use Rattle.range_replicas.specs.RangeValue.{RangeValue, is_at, nobody, replicas, server_at}
use Rattle.range_replicas.specs.Sound.{AreNumbered, FollowsFirst, HasLease, HoldsWithAll, IsSound}
use Rattle.range_replicas.specs.Voters.{set_of}
use Rattle.range_server.specs.declared.standing.Standing.{Standing}

-- where no place is found, each element fails
none_before : {X : Type 0} (p : X → Bool) (xs : List X) → None ≡ position p xs → length xs ≤ position_or_len p xs
none_before p xs e =
    elim (cases_lt (position_or_len p xs) (length xs)) as (λ _. length xs ≤ position_or_len p xs) [
      | inl b ↦
          let some : Some (position_or_len p xs) ≡ position p xs = cond_below (position_or_len p xs) (length xs) (Some (position_or_len p xs)) None b in
          absurd (let no : ⊥ = cc in no)
      | inr b ↦ b
    ]

is_node : (n m : NodeId) → n ≡ m → (n.0 == m.0) ≡ true
is_node n m e = let same : n.0 ≡ m.0 = ap (λ (x : NodeId). x.0) e in grind (arith, nat_tests)

node_is : (n m : NodeId) → (n.0 == m.0) ≡ true → n ≡ m
node_is n m e = let same : n.0 ≡ m.0 = grind (arith, nat_tests) in ap (λ (x : ℕ). record { 0 = x }) same

pub place_found : (r : RangeValue) → IsSound r → (node : NodeId) (o : Option ℕ) → o ≡ position (is_at node) r.servers
    → MatchOption o (¬ Contains (replicas r) node) (λ place. (place < length r.servers) × ((server_at place r).node ≡ node))
place_found r sound node None e = λ x.
    let at : Standing → NodeId = λ s. s.node in
    let nodes : Contains (map at r.servers) node = subst (λ (ns : List NodeId). Contains ns node) (sym sound.nodes) x in
    let within : nodes.0 < length r.servers = subst (λ (n : ℕ). nodes.0 < n) (length-map r.servers at) nodes.1 in
    let is : (get_or r.servers nodes.0 nobody).node ≡ node = sym (get_or-map at r.servers nodes.0 nobody node within) ∙ nodes.2 in
    let long = none_before (is_at node) r.servers e in
    let fails : is_at node (get_or r.servers nodes.0 nobody) ≡ false
    = fails_before_first (is_at node) r.servers nodes.0 nobody (omega (arith, within, long)) in
    let passes : is_at node (get_or r.servers nodes.0 nobody) ≡ true = is_node (get_or r.servers nodes.0 nobody).node node is in
    let no : true ≡ false = sym passes ∙ fails in
    cc
place_found r sound node (Some place) e =
    let h = position-Some (is_at node) r.servers place nobody (sym e) in
    (h.0, node_is (server_at place r).node node h.1)

-- no server yet, and one more
pub no_servers : (is_global : Bool) (entries : List Entry) → AreServersOf [] [] is_global entries []
no_servers is_global entries =
    record { nodes_are = refl; boots_are = refl; kind = All-nil (λ s. s.is_global ≡ is_global); begun = All-nil (HasBegun entries) }

pub one_server : (nodes : List NodeId) (boots : List ℕ) (is_global : Bool) (entries : List Entry) (servers : List Standing) (place : ℕ) (node : NodeId)
    (boot : ℕ) (server : Standing) → place < length nodes → length boots ≡ length nodes
    → AreServersOf (take place nodes) (take place boots) is_global entries servers
    → IsServerOf (get_or nodes place node) (get_or boots place boot) is_global entries server
    → AreServersOf (take (place + 1) nodes) (take (place + 1) boots) is_global entries (servers ++ server ∷ [])
one_server nodes boots is_global entries servers place node boot server within long h s =
    record {
      nodes_are = map_push (λ (x : Standing). x.node) servers server
          ∙ ap (λ (x : NodeId). map (λ (s : Standing). s.node) servers ++ x ∷ []) s.node_is
          ∙ ap (λ (x : List NodeId). x ++ get_or nodes place node ∷ []) h.nodes_are ∙ sym (take_more nodes place node within);
      boots_are = map_push (λ (x : Standing). x.boot) servers server
          ∙ ap (λ (x : ℕ). map (λ (s : Standing). s.boot) servers ++ x ∷ []) s.boot_is
          ∙ ap (λ (x : List ℕ). x ++ get_or boots place boot ∷ []) h.boots_are ∙ sym (take_more boots place boot (omega (arith, within, long)));
      kind = All-push (λ s. s.is_global ≡ is_global) servers server h.kind s.kind;
      begun = All-push (HasBegun entries) servers server h.begun s.begun;
    }

-- a range that begins is sound
module _ (r : RangeValue) (nodes : List NodeId) (boots : List ℕ) (lease : Lease) (same : nodes ≡ replicas r)
    (servers : AreServersOf nodes boots r.is_global r.log.entries r.servers) (first : r.log.entries ≡ log.Lease lease ∷ [])
    (distinct : AllPairs ◌≢◌ nodes) (some : 0 < length nodes) where
  abbrev at_node : Standing → NodeId
  at_node s = s.node

  abbrev at_boot : Standing → ℕ
  at_boot s = s.boot

  many : length nodes ≡ length r.servers
  many = ap length (sym servers.nodes_are) ∙ length-map r.servers at_node

  -- the holder is at the first place alone
  first_boot : lease.holder ≡ get_or nodes 0 lease.holder → lease.boot ≡ get_or boots 0 lease.boot
      → (k : ℕ) (d : Standing) → k < length r.servers → lease.holder ≡ (get_or r.servers k d).node → lease.boot ≤ (get_or r.servers k d).boot
  first_boot holder boot k d h named =
      let node_k : get_or nodes k lease.holder ≡ (get_or r.servers k d).node
      = ap (λ (x : List NodeId). get_or x k lease.holder) (sym servers.nodes_are) ∙ get_or-map at_node r.servers k d lease.holder h in
      let boot_k : get_or boots k lease.boot ≡ (get_or r.servers k d).boot
      = ap (λ (x : List ℕ). get_or x k lease.boot) (sym servers.boots_are) ∙ get_or-map at_boot r.servers k d lease.boot h in
      elim (cases_eq k 0) as (λ _. lease.boot ≤ (get_or r.servers k d).boot) [
        | inl z ↦
            let is : lease.boot ≡ (get_or r.servers k d).boot = boot ∙ ap (λ (n : ℕ). get_or boots n lease.boot) (sym z) ∙ boot_k in
            omega (arith, is)
        | inr n ↦
            let front : (0 < k) ⊎ (k ≡ 0) = positive k in
            absurd (elim front as (λ _. ⊥) [
              | inl p ↦ distinct 0 k lease.holder p (omega (arith, many, h)) (sym holder ∙ named ∙ sym node_k)
              | inr z ↦ n z
            ])
      ]
    where
      positive : (n : ℕ) → (0 < n) ⊎ (n ≡ 0)
      positive n = elim (cases_lt 0 n) as (λ _. (0 < n) ⊎ (n ≡ 0)) [ inl p ↦ inl p | inr z ↦ inr (omega (arith, z)) ]

  pub begun_sound : lease.holder ≡ get_or nodes 0 lease.holder → lease.boot ≡ get_or boots 0 lease.boot → All IsNode nodes
      → r.log.voters ≡ set_of r.voters → IsSound r
  begun_sound holder boot numbered voters =
      let entries = r.log.entries in
      let all : (s : Standing) → HasBegun entries s → first_entries s.replica.applied entries ≡ entries
      = λ s b. all_first s.replica.applied entries (omega (arith, b.follows.count)) in
      let last : lease_of entries ≡ Some lease = ap lease_of first in
      let alone : AreNumbered (log.Lease lease ∷ []) = (tt, tt) in
      record {
        nodes = servers.nodes_are ∙ same;
        distinct = subst (λ (x : List NodeId). AllPairs ◌≢◌ x) same distinct;
        numbered = subst (λ (x : List NodeId). All IsNode x) same numbered;
        kind = servers.kind;
        voters = voters;
        leases = subst AreNumbered (sym first) alone;
        follows = All-weaker (HasBegun entries) (FollowsFirst entries)
            (λ s b. subst (λ (x : List Entry). Follows s.replica x) (sym (all s b)) b.follows) r.servers servers.begun;
        leased = All-weaker (HasBegun entries) (HasLease entries)
            (λ s b. subst (λ (x : List Entry). IsSome (lease_of x)) (sym (all s b)) (subst (λ (x : Option Lease). IsSome x) (sym last) refl)) r.servers servers.begun;
        whole = All-weaker (HasBegun entries) (HoldsWithAll entries)
            (λ s b n other from h. all_first n entries (omega (arith, b.follows.count, from))) r.servers servers.begun;
        boots = λ k d h.
            subst (λ (x : Option Lease). IfSome x (λ l. l.holder ≡ (get_or r.servers k d).node → l.boot ≤ (get_or r.servers k d).boot)) (sym last)
            (first_boot holder boot k d h);
      }

-- the first voter is the first replica
pub front_node : (voters others nodes : List NodeId) (d e : NodeId) → nodes ≡ voters ++ others → 0 < length voters → get_or voters 0 d ≡ get_or nodes 0 e
front_node voters others nodes d e same some =
    get_or_default voters 0 d e some ∙ sym (get_or_append_left voters others e 0 some) ∙ ap (λ (x : List NodeId). get_or x 0 e) (sym same)
