-- The ties of ranges where a node starts.
use Rattle.std.proofs.Common.{◌≡◌, ◌<◌, ◌+◌, ◌∙◌, ◌==◌, ℕ, Bool, true, false, List, [], ◌∷◌, All, map, get_or, take, length, refl, sym, ap, subst, arith}
use Rattle.std.specs.Prelude.{if◌then◌else◌}
use Rattle.std.proofs.lemmas.Bool.Decides.{nat_tests}
use Rattle.std.proofs.lemmas.List.{get_or-map, length-map}
use Rattle.std.proofs.lemmas.List.Elements.{All-map}
use Rattle.closed_ts.specs.Targets.{at_wall}
use Rattle.mr_base.specs.declared.ids.NodeId.{NodeId}
use Rattle.mr_base.specs.declared.ids.RangeId.{RangeId}
use Rattle.range_log.specs.declared.entries.Entry.{Entry}
use Rattle.range_replicas.specs.RangeValue.{RangeValue}
use Rattle.range_replicas.specs.Sound.{IsSound}
use Rattle.range_server.specs.Seen.{nothing_above}
use Rattle.range_server.specs.declared.standing.Standing.{Standing}
use Rattle.replica_states.specs.RangeTies.{AreRangesTied, IsRangeTied, IsReplicaTied, planned}
use Rattle.replica_states.specs.Restarts.{AreBefore, restarted, restarted_server}
use Rattle.run_words.specs.Setup.{RangeSetup}

abbrev number : ℕ → NodeId
number k = record { 0 = k }

abbrev later_boot : NodeId → (NodeId → ℕ) → NodeId → ℕ
later_boot node boot n = if node.0 == n.0 then boot n + 1 else boot n

with_test : (b : Bool) (x y : ℕ) → b ≡ true → (if b then x else y) ≡ x
with_test true x y e = refl
with_test false x y e = absurd (let no : ⊥ = cc in no)

without_test : (b : Bool) (x y : ℕ) → b ≡ false → (if b then x else y) ≡ y
without_test false x y e = refl
without_test true x y e = absurd (let no : ⊥ = cc in no)

test_turns : (a b : ℕ) (t : Bool) → (a == b) ≡ t → (b == a) ≡ t
test_turns a b true e = grind (arith, nat_tests)
test_turns a b false e = grind (arith, nat_tests)

test_is : (a b : ℕ) → (a == b) ≡ true → a ≡ b
test_is a b e = grind (arith, nat_tests)

module _ (applied : NodeId → RangeId → ℕ) (boot : NodeId → ℕ) (node : NodeId) (b : ℕ) (is : b ≡ boot node + 1) (j : RangeId) where
  by_test : (t : Bool) (s : Standing) → (s.node.0 == node.0) ≡ t → IsReplicaTied applied boot j s
      → IsReplicaTied applied (later_boot node boot) j (if t then record s { boot = b; cache = nothing_above (at_wall 0) } else s)
  by_test true s e h =
      let one : s.node ≡ node = ap number (test_is s.node.0 node.0 e) in
      record {
        applied_is = h.applied_is;
        boot_is = is ∙ ap (λ (n : NodeId). boot n + 1) (sym one)
            ∙ sym (with_test (node.0 == s.node.0) (boot s.node + 1) (boot s.node) (test_turns s.node.0 node.0 true e));
      }
  by_test false s e h =
      record {
        applied_is = h.applied_is;
        boot_is = h.boot_is ∙ sym (without_test (node.0 == s.node.0) (boot s.node + 1) (boot s.node) (test_turns s.node.0 node.0 false e));
      }

  pub server_restarts : (s : Standing) → IsReplicaTied applied boot j s → IsReplicaTied applied (later_boot node boot) j (restarted_server node b s)
  server_restarts s h = by_test (s.node.0 == node.0) s refl h

planned_same : (node : NodeId) (b : ℕ) (ranges : List RangeValue) → map planned (map (restarted node b) ranges) ≡ map planned ranges
planned_same node b [] = refl
planned_same node b (r ∷ ranges) = ap (λ (ps : List RangeSetup). planned r ∷ ps) (planned_same node b ranges)

pub ranges_restart : (log : RangeId → List Entry) (applied : NodeId → RangeId → ℕ) (boot : NodeId → ℕ) (plans : List RangeSetup) (ranges : List RangeValue) (node : NodeId) (b : ℕ)
    → b ≡ boot node + 1 → AreRangesTied log applied boot plans ranges → All IsSound (map (restarted node b) ranges)
    → AreRangesTied log applied (later_boot node boot) plans (map (restarted node b) ranges)
ranges_restart log applied boot plans ranges node b is tied sound =
    record {
      each = λ k d h.
          let long : k < length ranges = subst (λ (n : ℕ). k < n) (length-map ranges (restarted node b)) h in
          let at : get_or (map (restarted node b) ranges) k d ≡ restarted node b (get_or ranges k d) = get_or-map (restarted node b) ranges k d d long in
          let old = tied.each k d long in
          let number_is = (get_or ranges k d).number in
          let new : IsRangeTied log applied (later_boot node boot) (restarted node b (get_or ranges k d))
          = record {
            sound = subst IsSound at (sound k d h);
            log_is = old.log_is;
            servers_are = All-map (IsReplicaTied applied (later_boot node boot) number_is) (restarted_server node b) (get_or ranges k d).servers
                (λ p s hp. server_restarts applied boot node b is number_is (get_or (get_or ranges k d).servers p s) (old.servers_are p s hp));
          }
          in
          subst (IsRangeTied log applied (later_boot node boot)) (sym at) new;
      plans_are = planned_same node b ranges ∙ tied.plans_are ∙ ap (λ (n : ℕ). take n plans) (sym (length-map ranges (restarted node b)));
      made = λ j some. let old = tied.made j some in (old.0, omega (arith, old.1, length-map ranges (restarted node b)));
    }

-- the servers of the node are of its boot before
pub servers_before : (log : RangeId → List Entry) (applied : NodeId → RangeId → ℕ) (boot : NodeId → ℕ) (plans : List RangeSetup) (ranges : List RangeValue) (node : NodeId) (b : ℕ)
    → b ≡ boot node + 1 → AreRangesTied log applied boot plans ranges → All (AreBefore node b) ranges
servers_before log applied boot plans ranges node b is tied = λ k d h p s hp at.
    let old = (tied.each k d h).servers_are p s hp in
    omega (arith, old.boot_is, ap boot at, is)
