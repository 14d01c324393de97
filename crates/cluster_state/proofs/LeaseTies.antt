-- All stays tied where a lease is appended.
use Rattle.std.proofs.Common.{◌≡◌, ◌≢◌, ◌<◌, ◌≤◌, ◌-◌, ◌+◌, ◌∙◌, ◌==◌, ◌||◌, ◌⊎◌, ℕ, suc, Bool, true, false, List, [], ◌∷◌, Option, None, Some, IsSome, All, get_or, set, length, max, refl, sym, ap, subst, inl, inr, arith}
use Rattle.std.specs.Vec.{with_item}
use Rattle.std.specs.Prelude.{if◌then◌else◌}
use Rattle.std.proofs.lemmas.Bool.{cases_eq}
use Rattle.std.proofs.lemmas.List.Elements.{All-weaker}
use Rattle.journal.specs.declared.entries.JournalEntry.TheVariants as entry
use Rattle.journal.specs.declared.events.Event.{Event}
use Rattle.journal.specs.declared.events.Event.TheVariants as events
use Rattle.mr_base.specs.declared.ids.MsgId.{MsgId}
use Rattle.mr_base.specs.declared.ids.NodeId.{NodeId}
use Rattle.mr_base.specs.declared.ids.RangeId.{RangeId}
use Rattle.mr_base.specs.declared.messages.Body.{Body}
use Rattle.mr_base.specs.declared.messages.Body.TheVariants as bodies
use Rattle.mr_base.specs.declared.messages.Message.{Message}
use Rattle.node_states.proofs.AppendLemmas.{applied_append}
use Rattle.node_states.specs.Placed.{IsLeasedBy}
use Rattle.node_states.specs.Ties.{IsAskPlaced, IsMessagePlaced}
use Rattle.range_log.specs.Facts.{lease_of}
use Rattle.range_log.specs.declared.entries.Entry.{Entry}
use Rattle.range_log.specs.declared.entries.Entry.TheVariants as log
use Rattle.range_log.specs.declared.entries.Lease.{Lease}
use Rattle.range_replicas.specs.RangeValue.{IsChangedAt, RangeValue, nobody, server_at}
use Rattle.range_replicas.specs.Sound.{IsSound}
use Rattle.range_server.specs.declared.standing.Standing.{Standing}
use Rattle.replica_states.proofs.RangeLemmas.{all_set, nodes_apart, range_changes}
use Rattle.replica_states.specs.RangeTies.{IsRangeTied, IsReplicaTied, RangesTied, planned}
use Rattle.run_laws.specs.OrderEvents.{IsFirstAt}
use Rattle.run_words.specs.History.{History, Made, Ran, Ticked}
use Rattle.run_words.specs.Logs.{actor, actor_in, appender_at, applied, holder_of, is_node_of, log_of, makes_ranges}
use Rattle.run_words.specs.Nodes.{boot}
use Rattle.run_words.specs.Ranges.{range_of}
use Rattle.run_words.specs.Setup.{Setup}
use Rattle.run_words.specs.Steps.{Between, Step, event_of, has_entry, step_of}
use Rattle.cluster_state.proofs.ApplyLemmas.{applied_within, node_number, other_test, same_test}
use Rattle.cluster_state.proofs.LeaseLemmas.{at_line}
use Rattle.cluster_state.proofs.RangeLemmas.{log_is, number_of, numbered, range_tied, within}
use Rattle.cluster_state.specs.LeaseMoves.{lease_event}
use Rattle.cluster_state.specs.Tied.{IsTied, IsTiedTo, past, the_setup}
use Rattle.cluster_state.specs.declared.leases.Ask.{Ask}
use Rattle.cluster_state.specs.declared.leases.Ask.TheVariants as asks
use Rattle.cluster_state.specs.declared.state.State.{State}

-- between a line and its first entry no step is made

between : (h : History) (ask : Ask) (j : RangeId) (n : NodeId) → event_of h ≡ Some (lease_event ask j n) → has_entry h ≡ false → step_of h ≡ Between
between [] ask j n e first = refl
between (Ran line (events.Timeout t) ∷ h) asks.Acquire j n e first = absurd (let no : ⊥ = cc in no)
between (Ran line (events.Timeout t) ∷ h) (asks.Transfer to b) j n e first = absurd (let no : ⊥ = cc in no)
between (Ran line (events.Timeout t) ∷ h) asks.Extend j n e first = absurd (let no : ⊥ = cc in no)
between (Ran line event ∷ h) ask j n e first = refl
between (Ticked ms ∷ h) ask j n e first = refl
between (Made x ∷ h) ask j n e first = absurd (let no : ⊥ = cc in no)

none_made : (ask : Ask) (j : RangeId) (n : NodeId) → makes_ranges (Some (lease_event ask j n)) ≡ false
none_made asks.Acquire j n = refl
none_made (asks.Transfer to b) j n = refl
none_made asks.Extend j n = refl

-- who appends at the line
abbrev pub IsAppender : Ask → List Entry → NodeId → Type 0
IsAppender asks.Acquire entries n = n ≡ n
IsAppender ask entries n = holder_of entries ≡ Some n

appends_there : (ask : Ask) (j : RangeId) (n : NodeId) (entries : List Entry) → IsAppender ask entries n → appender_at (Some (lease_event ask j n)) (holder_of entries) ≡ Some n
appends_there asks.Acquire j n entries h = refl
appends_there (asks.Transfer to b) j n entries h = h
appends_there asks.Extend j n entries h = h

pub actor_at : (setup : Setup) (h : History) (ask : Ask) (j : RangeId) (n : NodeId) → IsFirstAt h (lease_event ask j n) → IsAppender ask (log_of setup h j) n
    → actor setup h j ≡ Some n
actor_at setup h ask j n line holder =
    ap (λ (x : Step). actor_in h x (appender_at (event_of h) (holder_of (log_of setup h j)))) (between h ask j n line.0 line.1)
    ∙ ap (λ (o : Option Event). appender_at o (holder_of (log_of setup h j))) line.0 ∙ appends_there ask j n (log_of setup h j) holder

-- tests
when_true : {X : Type 0} (b : Bool) (x y : X) → b ≡ true → (if b then x else y) ≡ x
when_true true x y e = refl
when_true false x y e = absurd (let no : ⊥ = cc in no)

when_false : {X : Type 0} (b : Bool) (x y : X) → b ≡ false → (if b then x else y) ≡ y
when_false false x y e = refl
when_false true x y e = absurd (let no : ⊥ = cc in no)

either_false : (a b : Bool) → a ≡ false → b ≡ false → (a || b) ≡ false
either_false false false p q = refl
either_false true b p q = absurd (let no : ⊥ = cc in no)
either_false false true p q = absurd (let no : ⊥ = cc in no)

-- messages ask ranges that have begun
asks_more : (setup : Setup) (logs logs2 : RangeId → List Entry) → ((i : RangeId) → logs i ≢ [] → logs2 i ≢ []) → (to : NodeId) (b : Body) → IsAskPlaced setup logs to b → IsAskPlaced setup logs2 to b
asks_more setup logs logs2 f to (bodies.Request q) h = (h.0, f _ h.1)
asks_more setup logs logs2 f to (bodies.Reply reply) h = h

module _ (s : State) (t : IsTied s) (j : RangeId) (made : log_of (the_setup s) (past s) j ≢ []) (r : RangeValue) (is : r ≡ get_or s.ranges.items (j.0 - 1) r)
    (place : ℕ) (n : NodeId) (there : place < length r.servers) (at : (server_at place r).node ≡ n) (r2 : RangeValue) (changed : IsChangedAt place r r2) (sound : IsSound r2)
    (lease : Lease) (grown : r2.log.entries ≡ log.Lease lease ∷ r.log.entries) (nodes : (server_at place r2).node ≡ (server_at place r).node)
    (boots : (server_at place r2).boot ≡ (server_at place r).boot) (counted : (server_at place r2).replica.applied ≡ length r2.log.entries)
    (ask : Ask) (line : IsFirstAt (past s) (lease_event ask j n)) (acts : actor (the_setup s) (past s) j ≡ Some n) where
  abbrev index : ℕ
  index = length r2.log.entries

  abbrev h1 : History
  h1 = Made (entry.Append j index (log.Lease lease)) ∷ past s

  entries_of : RangeId → List Entry
  entries_of i = log_of (the_setup s) (past s) i

  log_here : log_of (the_setup s) h1 j ≡ log.Lease lease ∷ log_of (the_setup s) (past s) j
  log_here = when_true (j.0 == j.0) (log.Lease lease ∷ log_of (the_setup s) (past s) j) (log_of (the_setup s) (past s) j) (same_test j.0 j.0 refl)

  log_there : (i : RangeId) → j.0 ≢ i.0 → log_of (the_setup s) h1 i ≡ log_of (the_setup s) (past s) i
  log_there i away = when_false (j.0 == i.0) (log.Lease lease ∷ log_of (the_setup s) (past s) i) (log_of (the_setup s) (past s) i) (other_test j.0 i.0 away)

  pub index_is : index ≡ length (log_of (the_setup s) (past s) j) + 1
  index_is = omega (arith, ap length grown, ap length (log_is s (past s) t j made r is))

  abbrev is_tied : RangeId → Standing → Type 0
  is_tied i x = IsReplicaTied (applied (the_setup s) h1) (boot (the_setup s) h1) i x

  own : is_tied j (server_at place r2)
  own =
      let number : (server_at place r2).node ≡ n = nodes ∙ at in
      let most : max (applied (the_setup s) (past s) n j) index ≡ index = omega (arith, applied_within s t j made r is place n there at, index_is) in
      let more : applied (the_setup s) h1 n j ≡ index = applied_append (the_setup s) (past s) j index (log.Lease lease) n acts ∙ most in
      record {
        applied_is = counted ∙ sym more ∙ ap (λ (m : NodeId). applied (the_setup s) h1 m j) (sym number);
        boot_is = boots ∙ ((range_tied s (past s) t j made r is).servers_are place nobody there).boot_is ∙ ap (boot (the_setup s) (past s)) (sym nodes);
      }

  other : (k : ℕ) (d : Standing) → k < length r.servers → k ≢ place → is_tied j (get_or r.servers k d)
  other k d h apart =
      let old = (range_tied s (past s) t j made r is).servers_are k d h in
      let number = number_of s (past s) t j made r is in
      let m = (get_or r.servers k d).node in
      let away : m ≢ n = (λ e. nodes_apart r k place d nobody (range_tied s (past s) t j made r is).sound h there apart (e ∙ sym at)) in
      let not_acts : is_node_of (actor (the_setup s) (past s) j) m ≡ false
      = ap (λ (o : Option NodeId). is_node_of o m) acts ∙ other_test n.0 m.0 (node_number n m (λ e. away (sym e))) in
      let makes : makes_ranges (event_of (past s)) ≡ false = ap makes_ranges line.0 ∙ none_made ask j n in
      let count = applied (the_setup s) (past s) m j in
      let stays : applied (the_setup s) h1 m j ≡ count
      = when_true (j.0 == j.0) (if makes_ranges (event_of (past s)) || is_node_of (actor (the_setup s) (past s) j) m then max count index else count) count (same_test j.0 j.0 refl)
      ∙ when_false (makes_ranges (event_of (past s)) || is_node_of (actor (the_setup s) (past s) j) m) (max count index) count
      (either_false (makes_ranges (event_of (past s))) (is_node_of (actor (the_setup s) (past s) j) m) makes not_acts) in
      record { applied_is = old.applied_is ∙ ap (applied (the_setup s) (past s) m) number ∙ sym stays; boot_is = old.boot_is }

  range2 : IsRangeTied (log_of (the_setup s) h1) (applied (the_setup s) h1) (boot (the_setup s) h1) r2
  range2 =
      let servers : set r.servers place (server_at place r2) ≡ r2.servers = sym (ap (λ (x : RangeValue). x.servers) changed) in
      let number : j ≡ r2.number = sym (number_of s (past s) t j made r is) ∙ sym (ap (λ (x : RangeValue). x.number) changed) in
      record {
        sound = sound;
        log_is = grown ∙ ap (λ (es : List Entry). log.Lease lease ∷ es) (log_is s (past s) t j made r is) ∙ sym log_here ∙ ap (log_of (the_setup s) h1) number;
        servers_are = subst (λ (i : RangeId). All (is_tied i) r2.servers) number
            (subst (λ (xs : List Standing). All (is_tied j) xs) servers (all_set (is_tied j) r.servers place (server_at place r2) there own other));
      }

  ranges2 : RangesTied (the_setup s) h1 (set s.ranges.items (j.0 - 1) r2)
  ranges2 =
      let first : j.0 - 1 + 1 ≡ j.0 = (let h = t.ranges_are.made j made in omega (arith, h.0)) in
      range_changes (log_of (the_setup s) (past s)) (applied (the_setup s) (past s)) (boot (the_setup s) (past s)) (the_setup s).ranges s.ranges.items
      (numbered s (past s) t) t.ranges_are (j.0 - 1) r r2 (log_of (the_setup s) h1) (applied (the_setup s) h1) (within s (past s) t j made)
      (ap (λ (x : RangeValue). planned x) changed ∙ ap (λ (x : RangeValue). planned x) is) range2 (λ i away. log_there i (λ e. away (sym e ∙ sym first)))
      (λ m i away.
      when_false (j.0 == i.0) (if makes_ranges (event_of (past s)) || is_node_of (actor (the_setup s) (past s) j) m then max (applied (the_setup s) (past s) m i) index else applied (the_setup s) (past s) m i)
      (applied (the_setup s) (past s) m i) (other_test j.0 i.0 (λ e. away (sym e ∙ sym first))))

  begun : (i : RangeId) → log_of (the_setup s) (past s) i ≢ [] → log_of (the_setup s) h1 i ≢ []
  begun i some none = elim (cases_eq j.0 i.0) as (λ _. ⊥) [
    | inl e ↦
        let same : log_of (the_setup s) h1 i ≡ log.Lease lease ∷ log_of (the_setup s) (past s) i
        = when_true (j.0 == i.0) (log.Lease lease ∷ log_of (the_setup s) (past s) i) (log_of (the_setup s) (past s) i) (same_test j.0 i.0 e) in
        let no : log.Lease lease ∷ log_of (the_setup s) (past s) i ≡ [] = sym same ∙ none in
        absurd (let never : ⊥ = cc in never)
    | inr away ↦ some (sym (log_there i away) ∙ none)
  ]

  pub leased_keeps : IsSome (range_of (the_setup s) (past s) j) → IsLeasedBy (the_setup s) (past s) j lease (Some (lease_event ask j n))
      → IsTiedTo (Made (entry.Lease j lease.seq lease.holder lease.expiration) ∷ h1) (record s { ranges = with_item s.ranges (j.0 - 1) r2 })
  leased_keeps live next =
      let at_it = at_line (past s) ask j n line in
      record {
        staged = t.staged;
        laws = (
          record { order = (at_it, refl); message = tt; append = tt; waited = tt; begun = tt },
          (
            record {
              order = inr (at_it, line.1);
              message = tt;
              append = record {
                live = live;
                index_is = index_is;
                by = subst (λ (o : Option Event). IsLeasedBy (the_setup s) (past s) j lease o) (sym line.0) next;
              };
              waited = tt;
              begun = tt;
            },
            t.laws,
          ),
        );
        count = t.count;
        nodes_are = t.nodes_are;
        ranges_are = ranges2;
        mails_are = record {
          tied = t.mails_are.tied;
          placed = All-weaker (IsMessagePlaced (the_setup s) (log_of (the_setup s) (past s)) (length s.stage.nodes)) (IsMessagePlaced (the_setup s) (log_of (the_setup s) h1) (length s.stage.nodes))
              (λ m h. record { sender = h.sender; receiver = h.receiver; asks = asks_more (the_setup s) (log_of (the_setup s) (past s)) (log_of (the_setup s) h1) begun m.to m.body h.asks })
              s.flight.messages t.mails_are.placed;
        };
        begun_are = t.begun_are;
        sent_are = t.sent_are;
      }
