-- A replica applies further entries.
use Rattle.std.proofs.Common.{◌≡◌, ◌≢◌, ◌<◌, ◌≤◌, ◌-◌, ◌+◌, ◌^◌, ◌∙◌, ◌⊎◌, ◌==◌, ℕ, Bool, true, false, List, [], ◌∷◌, All, get_or, set, length, length-drop, min, max, cond, refl, sym, ap, subst, inl, inr, arith}
use Rattle.std.specs.Vec.{with_item}
use Rattle.std.specs.Prelude.{if◌then◌else◌}
use Rattle.std.proofs.lemmas.Bool.{cases_Bool, cases_lt}
use Rattle.std.proofs.lemmas.Bool.Decides.{nat_tests}
use Rattle.std.proofs.lemmas.List.{length-set}
use Rattle.journal.specs.declared.entries.JournalEntry.TheVariants as entry
use Rattle.journal.specs.declared.events.Event.TheVariants as events
use Rattle.mr_base.specs.declared.ids.NodeId.{NodeId}
use Rattle.mr_base.specs.declared.ids.RangeId.{RangeId}
use Rattle.range_replicas.specs.RangeValue.{IsChangedAt, RangeValue, nobody, server_at}
use Rattle.range_replicas.specs.Sound.{IsSound}
use Rattle.range_server.specs.declared.standing.Standing.{Standing}
use Rattle.replica_states.proofs.RangeLemmas.{all_set, nodes_apart, range_changes}
use Rattle.replica_states.specs.RangeTies.{IsRangeTied, IsReplicaTied, RangesTied, planned}
use Rattle.run_laws.specs.OrderEvents.{IsApplied, IsApplyDue, IsFirstAt}
use Rattle.run_words.specs.History.{History, Made}
use Rattle.run_words.specs.Logs.{applied, log_of}
use Rattle.run_words.specs.Nodes.{boot, is_running}
use Rattle.run_words.specs.Ranges.{HoldsReplica}
use Rattle.cluster_state.proofs.RangeLemmas.{applied_there, log_is, number_of, numbered, range_tied, within}
use Rattle.cluster_state.specs.Tied.{IsTied, IsTiedTo, past, the_setup}
use Rattle.cluster_state.specs.declared.state.State.{State}

-- no more is to be applied than there is
pub due_within : (s : State) (n : NodeId) (j : RangeId) (count : ℕ) → IsApplyDue (the_setup s) (past s) n j count → count ≤ length (log_of (the_setup s) (past s) j)
due_within s n j count (inl (more, line, e)) = omega (arith, e)
due_within s n j count (inr (drains, e, next)) = omega (arith, e)

-- ---- how many a replica has applied behind the entry

abbrev applied_with : Bool → Bool → ℕ → ℕ → ℕ
applied_with here there old count = if here then (if there then max old count else old) else old

apart_range : (here there : Bool) (old count : ℕ) → here ≡ false → applied_with here there old count ≡ old
apart_range false there old count e = refl
apart_range true there old count e = absurd (let no : ⊥ = cc in no)

apart_node : (here there : Bool) (old count : ℕ) → there ≡ false → applied_with here there old count ≡ old
apart_node true false old count e = refl
apart_node false there old count e = refl
apart_node true true old count e = absurd (let no : ⊥ = cc in no)

its_own : (here there : Bool) (old count : ℕ) → here ≡ true → there ≡ true → applied_with here there old count ≡ max old count
its_own true true old count h t = refl
its_own false there old count h t = absurd (let no : ⊥ = cc in no)
its_own true false old count h t = absurd (let no : ⊥ = cc in no)

pub same_test : (a b : ℕ) → a ≡ b → (a == b) ≡ true
same_test a b e = grind (arith, nat_tests)

pub other_test : (a b : ℕ) → a ≢ b → (a == b) ≡ false
other_test a b n = elim (cases_Bool (a == b)) as (λ _. (a == b) ≡ false) [
  | inl t ↦ absurd (n (let e : a ≡ b = grind (arith, nat_tests) in e))
  | inr f ↦ f
]

pub node_number : (a b : NodeId) → a ≢ b → a.0 ≢ b.0
node_number a b n e = n (ap (λ (k : ℕ). record { 0 = k }) e)

module _ (s : State) (t : IsTied s) (j : RangeId) (made : log_of (the_setup s) (past s) j ≢ []) (r : RangeValue) (is : r ≡ get_or s.ranges.items (j.0 - 1) r)
    (place : ℕ) (n : NodeId) (there : place < length r.servers) (at : (server_at place r).node ≡ n) where
  module _ (count : ℕ) (due : IsApplied (the_setup s) (past s) n j count) where
    pub from : (server_at place r).replica.applied ≤ count
    from = omega (arith, applied_there s (past s) t j made r is place n there at, due.further)

    pub upto : count ≤ length r.log.entries
    upto = omega (arith, due_within s n j count due.due, ap length (log_is s (past s) t j made r is))

    module _ (r2 : RangeValue) (counted : (server_at place r2).replica.applied ≡ count) (boots : (server_at place r2).boot ≡ (server_at place r).boot)
        (nodes : (server_at place r2).node ≡ (server_at place r).node) (same : r2.log ≡ r.log) (changed : IsChangedAt place r r2) (sound : IsSound r2) where
      abbrev h2 : History
      h2 = Made (entry.Apply n j count) ∷ past s

      abbrev is_tied : RangeId → Standing → Type 0
      is_tied i x = IsReplicaTied (applied (the_setup s) h2) (boot (the_setup s) h2) i x

      own : is_tied j (server_at place r2)
      own =
          let number : (server_at place r2).node ≡ n = nodes ∙ at in
          let old : applied (the_setup s) (past s) n j < count = due.further in
          let most : max (applied (the_setup s) (past s) n j) count ≡ count = omega (arith, old) in
          let more : applied (the_setup s) h2 n j ≡ count
          = its_own (j.0 == j.0) (n.0 == n.0) (applied (the_setup s) (past s) n j) count (same_test j.0 j.0 refl) (same_test n.0 n.0 refl) ∙ most in
          record {
            applied_is = counted ∙ sym more ∙ ap (λ (m : NodeId). applied (the_setup s) h2 m j) (sym number);
            boot_is = boots ∙ ((range_tied s (past s) t j made r is).servers_are place nobody there).boot_is ∙ ap (boot (the_setup s) (past s)) (sym nodes);
          }

      number2 : r2.number ≡ r.number
      number2 = ap (λ (x : RangeValue). x.number) changed

      other : (k : ℕ) (d : Standing) → k < length r.servers → k ≢ place → is_tied j (get_or r.servers k d)
      other k d h apart =
          let old = (range_tied s (past s) t j made r is).servers_are k d h in
          let number = number_of s (past s) t j made r is in
          let node : (get_or r.servers k d).node ≢ n = (λ e. nodes_apart r k place d nobody (range_tied s (past s) t j made r is).sound h there apart (e ∙ sym at)) in
          let stays : applied (the_setup s) h2 (get_or r.servers k d).node j ≡ applied (the_setup s) (past s) (get_or r.servers k d).node j
          = apart_node (j.0 == j.0) (n.0 == (get_or r.servers k d).node.0) (applied (the_setup s) (past s) (get_or r.servers k d).node j) count
          (other_test n.0 (get_or r.servers k d).node.0 (node_number n (get_or r.servers k d).node (λ e. node (sym e)))) in
          record {
            applied_is = old.applied_is ∙ ap (applied (the_setup s) (past s) (get_or r.servers k d).node) number ∙ sym stays;
            boot_is = old.boot_is;
          }

      range2 : IsRangeTied (log_of (the_setup s) h2) (applied (the_setup s) h2) (boot (the_setup s) h2) r2
      range2 =
          let servers : set r.servers place (server_at place r2) ≡ r2.servers = sym (ap (λ (x : RangeValue). x.servers) changed) in
          let number : j ≡ r2.number = sym (number_of s (past s) t j made r is) ∙ sym number2 in
          record {
            sound = sound;
            log_is = ap (λ l. l.entries) same ∙ (range_tied s (past s) t j made r is).log_is ∙ ap (log_of (the_setup s) (past s)) (sym number2);
            servers_are = subst (λ (i : RangeId). All (is_tied i) r2.servers) number
                (subst (λ (xs : List Standing). All (is_tied j) xs) servers (all_set (is_tied j) r.servers place (server_at place r2) there own other));
          }

      pub ranges2 : RangesTied (the_setup s) h2 (set s.ranges.items (j.0 - 1) r2)
      ranges2 =
          let first : j.0 - 1 + 1 ≡ j.0 = (let h = t.ranges_are.made j made in omega (arith, h.0)) in
          range_changes (log_of (the_setup s) (past s)) (applied (the_setup s) (past s)) (boot (the_setup s) (past s)) (the_setup s).ranges s.ranges.items
          (numbered s (past s) t) t.ranges_are (j.0 - 1) r r2 (log_of (the_setup s) h2) (applied (the_setup s) h2) (within s (past s) t j made)
          (ap (λ (x : RangeValue). planned x) changed ∙ ap (λ (x : RangeValue). planned x) is) range2 (λ i n2. refl)
          (λ m i away. apart_range (j.0 == i.0) (n.0 == m.0) (applied (the_setup s) (past s) m i) count
          (other_test j.0 i.0 (λ e. away (sym e ∙ sym first))))

      pub applied_keeps : IsTiedTo h2 (record s { ranges = with_item s.ranges (j.0 - 1) r2 })
      applied_keeps =
          record {
            staged = t.staged;
            laws = (record { order = due; message = tt; append = tt; waited = tt; begun = tt }, t.laws);
            count = t.count;
            nodes_are = t.nodes_are;
            ranges_are = ranges2;
            mails_are = t.mails_are;
            begun_are = t.begun_are;
            sent_are = t.sent_are;
          }

  pub applied_within : applied (the_setup s) (past s) n j ≤ length (log_of (the_setup s) (past s) j)
  applied_within =
      let f = (range_tied s (past s) t j made r is).sound.follows place nobody there in
      omega (
        arith,
        f.count,
        length-drop (length r.log.entries - (server_at place r).replica.applied) r.log.entries,
        applied_there s (past s) t j made r is place n there at,
        ap length (log_is s (past s) t j made r is),
      )

  -- at its own line
  module _ (more : ℕ) (line : IsFirstAt (past s) (events.Apply n j more)) (sum least : ℕ)
      (s_is : sum ≡ min ((server_at place r).replica.applied + more) (2 ^ 64 - 1)) (l_is : least ≡ min sum (length r.log.entries)) (short : length r.log.entries < 2 ^ 64) where
    pub least_is : least ≡ min (applied (the_setup s) (past s) n j + more) (length (log_of (the_setup s) (past s) j))
    least_is = omega (arith, s_is, l_is, short, applied_there s (past s) t j made r is place n there at, ap length (log_is s (past s) t j made r is))

    pub line_due : is_running (the_setup s) (past s) n ≡ true → HoldsReplica (the_setup s) (past s) n j → least ≢ (server_at place r).replica.applied
        → IsApplied (the_setup s) (past s) n j least
    line_due runs holds further =
        let less : applied (the_setup s) (past s) n j < least = beyond (λ e. further (e ∙ sym (applied_there s (past s) t j made r is place n there at))) in
        record { due = inl (more, line, least_is); further = less; running = runs; replica = holds }
      where
        beyond : least ≢ applied (the_setup s) (past s) n j → applied (the_setup s) (past s) n j < least
        beyond n2 = elim (cases_lt (applied (the_setup s) (past s) n j) least) as (λ _. applied (the_setup s) (past s) n j < least) [
          | inl b ↦ b
          | inr b ↦ absurd (n2 (let e : least ≡ applied (the_setup s) (past s) n j = omega (arith, b, least_is, applied_within) in e))
        ]

    pub line_done : least ≡ (server_at place r).replica.applied
        → applied (the_setup s) (past s) n j ≡ min (applied (the_setup s) (past s) n j + more) (length (log_of (the_setup s) (past s) j))
    line_done e = sym (applied_there s (past s) t j made r is place n there at) ∙ sym e ∙ least_is
