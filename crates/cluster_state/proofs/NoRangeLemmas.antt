use Rattle.std.proofs.Common.{◌≡◌, ◌≢◌, ◌<◌, ◌≤◌, ◌+◌, ◌-◌, ◌∙◌, ◌⊎◌, ℕ, zero, suc, List, [], ◌∷◌, ◌++◌, false, Some, inl, inr, refl, sym, ap, subst, length, map, take, drop, get_or, arith}
use Rattle.std.specs.Prelude.{IsSome}
use Rattle.std.proofs.Math.Seq.{drop-nil}
use Rattle.node_states.specs.Stage.{AreNumbered}
use Rattle.std.specs.List.{All}
use Rattle.std.proofs.lemmas.List.{get_or-map, length-append, length-map}
use Rattle.journal.specs.declared.events.Event.TheVariants as events
use Rattle.mr_base.specs.declared.ids.NodeId.{NodeId}
use Rattle.mr_base.specs.declared.ids.RangeId.{RangeId}
use Rattle.node_states.specs.Stage.{IsPlaced, range_setup}
use Rattle.node_states.specs.declared.stage.RangePlan.{RangePlan}
use Rattle.range_log.specs.Facts.{first_entries, lease_of}
use Rattle.range_log.specs.declared.entries.Entry.{Entry}
use Rattle.range_replicas.specs.RangeValue.{RangeValue, nobody, replicas}
use Rattle.range_replicas.specs.Sound.{IsSound}
use Rattle.range_server.specs.declared.standing.Standing.{Standing}
use Rattle.replica_states.proofs.RangeLemmas.{made_within, plan_at, setup_numbers}
use Rattle.replica_states.specs.Making.{IsMaking}
use Rattle.replica_states.specs.RangeTies.{IsRangeTied, planned}
use Rattle.run_words.specs.History.{History, Ran}
use Rattle.run_words.specs.Logs.{applied, log_of}
use Rattle.run_words.specs.Nodes.{boot}
use Rattle.run_words.specs.Setup.{RangeSetup}
use Rattle.cluster_state.specs.Tied.{IsTied, past, the_setup}
use Rattle.cluster_state.specs.declared.state.State.{State}

-- Where nothing has been appended no range is made.

no_lease : (n : ℕ) (es : List Entry) → es ≡ [] → IsSome (lease_of (first_entries n es)) → ⊥
no_lease n es e h =
    let dropped : first_entries n es ≡ [] = ap (first_entries n) e ∙ drop-nil (0 - n) in
    let nil : List Entry = [] in
    let none : IsSome (lease_of nil) = subst (λ (xs : List Entry). IsSome (lease_of xs)) dropped h in
    cc

-- a range with a replica has entries
filled : (r : RangeValue) → IsSound r → 0 < length r.servers → r.log.entries ≡ [] → ⊥
filled r sound some e = no_lease (get_or r.servers 0 nobody).replica.applied r.log.entries e (sound.leased 0 nobody some)

some_voter : (voters others : List NodeId) → voters ≢ [] → 0 < length (voters ++ others)
some_voter [] others some = absurd (some refl)
some_voter (v ∷ voters) others some = omega arith

planned_voters : (s : State) (d : RangeValue) (p : RangePlan) → IsTied s → 0 < length s.ranges.items → 0 < length s.stage.ranges → (get_or s.ranges.items 0 d).voters ≢ []
planned_voters s d p t some within e =
    let plan : planned (get_or s.ranges.items 0 d) ≡ range_setup (get_or s.stage.ranges 0 p) =
    plan_at (log_of (the_setup s) (past s)) (applied (the_setup s) (past s)) (boot (the_setup s) (past s)) (the_setup s).ranges s.ranges.items
    (subst (λ (ns : List ℕ). AreNumbered 0 ns) (sym (setup_numbers s.stage.ranges)) t.staged.numbered) t.ranges_are 0 d some
    ∙ get_or-map range_setup s.stage.ranges 0 p (planned d) within in
    (t.staged.placed 0 p within).voters (sym (ap (λ (x : RangeSetup). x.voters) plan) ∙ e)

none_made : (s : State) (d : RangeValue) (p : RangePlan) → IsTied s → ((j : RangeId) → log_of (the_setup s) (past s) j ≡ []) → 0 < length s.ranges.items → ⊥
none_made s d p t empty some =
    let within : 0 < length s.stage.ranges = omega (
      arith,
      some,
      made_within (log_of (the_setup s) (past s)) (applied (the_setup s) (past s)) (boot (the_setup s) (past s)) (the_setup s).ranges s.ranges.items
          (subst (λ (ns : List ℕ). AreNumbered 0 ns) (sym (setup_numbers s.stage.ranges)) t.staged.numbered) t.ranges_are,
      length-map s.stage.ranges range_setup,
    ) in
    let tied : IsRangeTied (log_of (the_setup s) (past s)) (applied (the_setup s) (past s)) (boot (the_setup s) (past s)) (get_or s.ranges.items 0 d) = t.ranges_are.each 0 d some in
    let servers : 0 < length (get_or s.ranges.items 0 d).servers =
    subst (λ (k : ℕ). 0 < k) (sym (sym (length-map (get_or s.ranges.items 0 d).servers (λ (x : Standing). x.node)) ∙ ap length tied.sound.nodes))
    (some_voter (get_or s.ranges.items 0 d).voters (get_or s.ranges.items 0 d).others (planned_voters s d p t some within)) in
    filled (get_or s.ranges.items 0 d) tied.sound servers (tied.log_is ∙ empty (get_or s.ranges.items 0 d).number)

zero_or_more : (k : ℕ) → (k ≡ 0) ⊎ (0 < k)
zero_or_more k = grind arith

no_range_value : RangeValue
no_range_value =
    record {
      number = record { 0 = 0 };
      voters = [];
      others = [];
      is_global = false;
      log = record { voters = record { 0 = 0 }; entries = []; room = 0 };
      servers = [];
    }

no_plan : RangePlan
no_plan = record { number = record { 0 = 0 }; voters = []; others = []; is_global = false }

none_or : (s : State) → IsTied s → ((j : RangeId) → log_of (the_setup s) (past s) j ≡ []) → (length s.ranges.items ≡ 0) ⊎ (0 < length s.ranges.items) → length s.ranges.items ≡ 0
none_or s t empty (inl e) = e
none_or s t empty (inr more) = absurd (none_made s no_range_value no_plan t empty more)

-- where nothing has been appended no range is made
pub no_range_made : (s : State) → IsTied s → ((j : RangeId) → log_of (the_setup s) (past s) j ≡ []) → length s.ranges.items ≡ 0
no_range_made s t empty = none_or s t empty (zero_or_more (length s.ranges.items))

-- behind the `begin` line nothing is made yet
pub first_making : (s : State) (line : ℕ) → past s ≡ Ran line events.Begin ∷ [] → IsMaking (the_setup s) (past s) 0
first_making s line e =
    subst (λ (h : History). IsMaking (the_setup s) h 0) (sym e)
    (record { line = refl; unmade = λ j above. (refl, λ n. refl); reached_to = tt; made = λ j low high. absurd (omega (arith, low, high)) })

pub no_range_first : (s : State) (line : ℕ) → IsTied s → past s ≡ Ran line events.Begin ∷ [] → length s.ranges.items ≡ 0
no_range_first s line t e = no_range_made s t (λ j. ap (λ (h : History). log_of (the_setup s) h j) e)
