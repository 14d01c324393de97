-- All stays tied where a request is handled.
use Rattle.std.proofs.Common.{◌≡◌, ◌≢◌, ℕ, suc, ◌<◌, ◌≤◌, ◌+◌, ◌-◌, Bool, true, false, List, [], ◌∷◌, ◌++◌, length, get_or, set, refl, sym, ap, ◌∙◌, subst, arith, Some, None, length-append, length-drop, map}
use Rattle.std.specs.Prelude.{◌==◌, IsSome, Option}
use Rattle.std.specs.List.{All, find}
use Rattle.std.specs.Vec.{with_item}
use Rattle.journal.specs.declared.entries.JournalEntry.TheVariants as entry
use Rattle.mr_base.specs.declared.ids.NodeId.{NodeId}
use Rattle.mr_base.specs.declared.ids.RangeId.{RangeId}
use Rattle.mr_base.specs.declared.messages.Reply.{Reply}
use Rattle.mr_base.specs.declared.messages.Reply.TheVariants as replies
use Rattle.mr_base.specs.declared.messages.Request.{Request}
use Rattle.mr_base.specs.declared.messages.Request.TheVariants as requests
use Rattle.mr_base.specs.declared.timestamps.Reading.{Reading}
use Rattle.node_states.proofs.AppendLemmas.{appends_keep, applied_actor, applied_apart, applied_others, log_apart, log_with, step_behind, step_is, steps_make_none}
use Rattle.node_states.specs.Appends.{AreChanges, appends}
use Rattle.node_states.specs.Placed.{KeepsLaws}
use Rattle.node_states.specs.declared.states.NodeState.{NodeState}
use Rattle.range_log.specs.Facts.{first_entries, lease_of}
use Rattle.range_log.specs.declared.entries.Entry.{Entry}
use Rattle.range_log.specs.declared.entries.Lease.{Lease}
use Rattle.range_replicas.specs.RangeValue.{IsChangedAt, RangeValue, added_in, nobody, scene_at, server_at}
use Rattle.range_replicas.specs.Sound.{IsSound}
use Rattle.range_replicas.specs.Voters.{MajorityIsMoreThanHalf}
use Rattle.range_server.specs.Applying.{applied_past}
use Rattle.range_server.specs.Refusals.{CanAppend}
use Rattle.range_server.specs.Refusals as refusals
use Rattle.range_server.specs.Scene.{Scene, applied_in, moment}
use Rattle.range_server.specs.declared.reads.Right.{Right}
use Rattle.range_server.specs.declared.standing.Standing.{Standing}
use Rattle.node_states.specs.Stage.{AreNumbered}
use Rattle.range_log.specs.LogValue.{LogValue}
use Rattle.range_rules.specs.Added.{AreLicensed}
use Rattle.range_server.specs.Handling.{Licenses}
use Rattle.replica_states.proofs.OneRange.{one_changed, ranges_numbered}
use Rattle.replica_states.proofs.RangeLemmas.{plan_made}
use Rattle.replica_states.specs.RangeTies.{AreRangesTied, IsReplicaTied, RangesTied}
use Rattle.run_laws.specs.OrderEvents.{IsInStep}
use Rattle.run_laws.specs.Places.{stepping}
use Rattle.run_words.specs.Askers.{range_asked}
use Rattle.run_words.specs.History.{History, Made}
use Rattle.run_words.specs.Logs.{applied, log_of, makes_ranges, prefix}
use Rattle.run_words.specs.Nodes.{boot, is_running}
use Rattle.run_words.specs.Ranges.{HasQuorum, has_number, range_of}
use Rattle.run_words.specs.Serving.{IsHolder}
use Rattle.run_words.specs.Setup.{RangeSetup, Setup}
use Rattle.run_words.specs.Steps.{event_of, step_of}
use Rattle.cluster_state.proofs.AppendsKeep.{attempts_behind, changes_of, mails_behind, messages_behind, nodes_behind}
use Rattle.cluster_state.proofs.Quorum.{quorum_of}
use Rattle.cluster_state.proofs.RangeLemmas.{applied_there, boot_there, log_is, number_of, numbered, range_tied, within}
use Rattle.cluster_state.specs.Handled.{serve_of}
use Rattle.cluster_state.specs.Tied.{IsTiedTo, the_setup}
use Rattle.cluster_state.specs.declared.state.State.{State}

-- a read or refresh that was served changes no word that ties look at
serve_tied : (s : State) (g : History) (n : NodeId) (count : ℕ) (q : Request) (reply : Option Reply) (by : Option Right) → IsInStep g → IsTiedTo g s
    → IsTiedTo (serve_of n count q reply by ++ g) s
serve_tied s g n count (requests.Read a j span at limit known) (Some (replies.Rows pairs)) (Some right) step t =
    record {
      staged = t.staged;
      laws = (record { order = step; message = tt; append = tt; waited = tt; begun = tt }, t.laws);
      count = t.count;
      nodes_are = t.nodes_are;
      ranges_are = t.ranges_are;
      mails_are = t.mails_are;
      begun_are = t.begun_are;
      sent_are = t.sent_are;
    }
serve_tied s g n count (requests.Refresh a j span from at known) (Some replies.Refreshed) (Some right) step t =
    record {
      staged = t.staged;
      laws = (record { order = step; message = tt; append = tt; waited = tt; begun = tt }, t.laws);
      count = t.count;
      nodes_are = t.nodes_are;
      ranges_are = t.ranges_are;
      mails_are = t.mails_are;
      begun_are = t.begun_are;
      sent_are = t.sent_are;
    }
serve_tied s g n count q reply by step t = t

-- tests on numbers
same_test : (a b : ℕ) → a ≡ b → (a == b) ≡ true
same_test a b e = grind (arith, e)

other_test : (a b : ℕ) → b ≢ a → (a == b) ≡ false
other_test a b ne = grind (arith, ne)

-- ties of ranges stay by boots at which appends don't look
boots_behind : (setup : Setup) (log : RangeId → List Entry) (counts : NodeId → RangeId → ℕ) (plans : List RangeSetup) (ranges : List RangeValue) (j : RangeId) (before : ℕ) (added : List Entry) (h : History)
    → AreRangesTied log counts (boot setup h) plans ranges → AreRangesTied log counts (boot setup (appends j before added ++ h)) plans ranges
boots_behind setup log counts plans ranges j before [] h t = t
boots_behind setup log counts plans ranges j before (e ∷ added) h t = boots_behind setup log counts plans ranges j before added h t

abbrev changed_at : RangeValue → ℕ → LogValue → Standing → RangeValue
changed_at r p log s = record r { log = log; servers = set r.servers p s }

-- a range that is read as this one changes
abbrev ChangesTo : (log new : RangeId → List Entry) (counts now : NodeId → RangeId → ℕ) (boots : NodeId → ℕ) (plans : List RangeSetup) (ranges : List RangeValue) (i p : ℕ)
    (l : LogValue) (v : Standing) → RangeValue → Type 0
ChangesTo log new counts now boots plans ranges i p l v r =
    p < length r.servers → IsSound (changed_at r p l v) → v.node ≡ (get_or r.servers p nobody).node
    → IsReplicaTied now boots r.number v → l.entries ≡ new r.number → log r.number ≢ []
    → ((k : RangeId) → k.0 ≢ r.number.0 → new k ≡ log k)
    → ((n : NodeId) (k : RangeId) → k.0 ≢ r.number.0 → now n k ≡ counts n k)
    → ((n : NodeId) → n.0 ≢ v.node.0 → now n r.number ≡ counts n r.number)
    → AreRangesTied new now boots plans (set ranges i (changed_at r p l v))

changes_to : (log new : RangeId → List Entry) (counts now : NodeId → RangeId → ℕ) (boots : NodeId → ℕ) (plans : List RangeSetup) (ranges : List RangeValue) (i p : ℕ)
    (l : LogValue) (v : Standing) (r : RangeValue) → r ≡ get_or ranges i r → AreRangesTied log counts boots plans ranges
    → AreNumbered 0 (map (λ (x : RangeValue). x.number.0) ranges) → i < length ranges
    → ChangesTo log new counts now boots plans ranges i p l v r
changes_to log new counts now boots plans ranges i p l v r is t order inside =
    subst (ChangesTo log new counts now boots plans ranges i p l v) (sym is)
    (one_changed log new counts now boots plans ranges i p r nobody l v t order inside)

module _ (law : MajorityIsMoreThanHalf) (s : State) (h : History) (t : IsTiedTo h s) (j : RangeId) (made : log_of (the_setup s) h j ≢ [])
    (r : RangeValue) (is : r ≡ get_or s.ranges.items (j.0 - 1) r) (n : NodeId) (place : ℕ) (there : place < length r.servers) (at : (server_at place r).node ≡ n)
    (clock : Reading) (d : NodeState) (step : IsInStep h) (by : stepping h ≡ Some n) (up : is_running (the_setup s) h n ≡ true) where
  abbrev S : Setup
  S = the_setup s

  abbrev sc : Scene
  sc = scene_at place r (moment clock s.stage.settings s.running)

  abbrev before : ℕ
  before = length (log_of S h j)

  pub prefix_is : applied_in sc ≡ prefix S h n j
  prefix_is =
      ap (λ (k : ℕ). first_entries k r.log.entries) (applied_there s h t j made r is place n there at)
      ∙ ap (λ (es : List Entry). first_entries (applied S h n j) es) (log_is s h t j made r is)

  holds : CanAppend sc → IsHolder S h n j
  holds can = (
    can.lease,
    ap lease_of (sym prefix_is) ∙ can.holds.has,
    ap lease_of (sym (log_is s h t j made r is)) ∙ can.holds.last,
    can.holds.names.0 ∙ at,
    can.holds.names.1 ∙ boot_there s h t j made r is place n there at,
  )

  live : IsSome (range_of S h j)
  live = subst (λ (o : Option RangeSetup). IsSome o)
      (sym (plan_made (log_of S h) (applied S h) (boot S h) S.ranges s.ranges.items (numbered s h t) t.ranges_are j r made)) refl

  laws_behind : (added : List Entry) → refusals.IsByHolder sc added → AreChanges added → KeepsLaws S (appends j before added ++ h)
  laws_behind [] holder changes = t.laws
  laws_behind (e ∷ added) can changes =
      (appends_keep S h j n before (e ∷ added) step by up (holds can) (quorum_of law s h j r d t made is can.majority) live refl changes t.laws).0

  at_most : (server_at place r).replica.applied ≤ length r.log.entries
  at_most =
      let f : (server_at place r).replica.applied ≡ length (first_entries (server_at place r).replica.applied r.log.entries) =
      ((range_tied s h t j made r is).sound.follows place nobody there).count in
      omega (arith, f, length-drop (length r.log.entries - (server_at place r).replica.applied) r.log.entries)

  counts_behind : (added entries : List Entry) → entries ≡ added ++ r.log.entries
      → applied_past added (server_at place r).replica.applied entries ≡ applied S (appends j before added ++ h) n j
  counts_behind [] entries e = applied_there s h t j made r is place n there at
  counts_behind (x ∷ added) entries e =
      let old : applied S h n j ≤ before = omega (arith, at_most, applied_there s h t j made r is place n there at, ap length (log_is s h t j made r is)) in
      let new : applied S (appends j before (x ∷ added) ++ h) n j ≡ before + length added + 1 = applied_actor S h j n before x added step by old in
      omega (arith, new, ap length e, length-append added r.log.entries, ap length (log_is s h t j made r is))

  module _ (r2 : RangeValue) (added : List Entry) (q : Request) (grown : r2.log.entries ≡ added ++ r.log.entries) (holder : refusals.IsByHolder sc added)
      (licensed : AreLicensed (Licenses sc q) added r.log.entries)
      (counted : (server_at place r2).replica.applied ≡ applied_past added (server_at place r).replica.applied r2.log.entries)
      (boots : (server_at place r2).boot ≡ (server_at place r).boot) (nodes : (server_at place r2).node ≡ (server_at place r).node)
      (changed : IsChangedAt place r r2) (sound : IsSound r2) where
    abbrev h2 : History
    h2 = appends j before added ++ h

    number : r.number ≡ j
    number = number_of s h t j made r is

    own : IsReplicaTied (applied S h2) (boot S h) r.number (server_at place r2)
    own =
        record {
          applied_is = counted ∙ counts_behind added r2.log.entries grown ∙ ap (λ (m : NodeId). applied S h2 m j) (sym (nodes ∙ at))
              ∙ ap (applied S h2 (server_at place r2).node) (sym number);
          boot_is = boots ∙ boot_there s h t j made r is place n there at ∙ ap (boot S h) (sym (nodes ∙ at));
        }

    ranges_behind : RangesTied S h2 (set s.ranges.items (j.0 - 1) r2)
    ranges_behind =
        boots_behind S (log_of S h2) (applied S h2) S.ranges (set s.ranges.items (j.0 - 1) r2) j before added h
        (subst (λ (x : RangeValue). AreRangesTied (log_of S h2) (applied S h2) (boot S h) S.ranges (set s.ranges.items (j.0 - 1) x)) (sym changed)
        (changes_to (log_of S h) (log_of S h2) (applied S h) (applied S h2) (boot S h) S.ranges s.ranges.items (j.0 - 1) place r2.log (server_at place r2) r is
        t.ranges_are (ranges_numbered s.stage s.ranges.items t.staged t.ranges_are.plans_are) (within s h t j made)
        there (subst IsSound changed sound) nodes own
        (grown ∙ ap (λ (es : List Entry). added ++ es) (log_is s h t j made r is) ∙ sym (log_with S h j before added) ∙ ap (log_of S h2) (sym number))
        (λ none. made (ap (log_of S h) (sym number) ∙ none))
        (λ k ne. log_apart S h j k before added (other_test j.0 k.0 (subst (λ (i : RangeId). k.0 ≢ i.0) number ne)))
        (λ m k ne. applied_apart S h j k m before added (other_test j.0 k.0 (subst (λ (i : RangeId). k.0 ≢ i.0) number ne)))
        (λ m ne.
        let apart : (n.0 == m.0) ≡ false = other_test n.0 m.0 (subst (λ (x : NodeId). m.0 ≢ x.0) (nodes ∙ at) ne) in
        subst (λ (i : RangeId). applied S h2 m i ≡ applied S h m i) (sym number)
        (applied_others S h j n m before added step by (steps_make_none S h t.laws (step_is (event_of h) (step_of h) step)) apart))))

    -- what was appended is recorded
    pub appended_tied : IsTiedTo h2 (record s { ranges = with_item s.ranges (j.0 - 1) r2 })
    appended_tied =
        record {
          staged = t.staged;
          laws = laws_behind added holder (changes_of sc q added r.log.entries licensed);
          count = t.count;
          nodes_are = nodes_behind S j before added h s.nodes.items s.running t.nodes_are;
          ranges_are = ranges_behind;
          mails_are = mails_behind S j before added h (length s.stage.nodes) s.sent s.flight.messages t.mails_are;
          begun_are = t.begun_are ∙ sym (attempts_behind S j before added h);
          sent_are = t.sent_are ∙ sym (messages_behind S j before added h);
        }

    -- and what was served
    pub handled_tied : (reply : Option Reply) (right : Option Right) (count : ℕ)
        → IsTiedTo (serve_of n count q reply right ++ h2) (record s { ranges = with_item s.ranges (j.0 - 1) r2 })
    handled_tied reply right count =
        serve_tied (record s { ranges = with_item s.ranges (j.0 - 1) r2 }) h2 n count q reply right (step_behind j before added h step) appended_tied
