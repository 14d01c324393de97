use Rattle.std.proofs.Common.{◌≡◌, ◌≢◌, ◌<◌, ◌≤◌, ◌+◌, ◌-◌, ◌∙◌, ℕ, zero, suc, Bool, List, [], ◌∷◌, ◌++◌, Option, None, Some, Vec, ◌⊎◌, inl, inr, refl, sym, ap, ap₂, subst, length, map, get_or, arith}
use Rattle.std.specs.Prelude.{IsSome, slice_get, slice_index_or, unwrap_or}
use Rattle.std.specs.List.{All, Contains}
use Rattle.std.specs.Option.{option_map_or}
use Rattle.std.proofs.lemmas.List.{get_or-map, length-append, length-map}
use Rattle.std.specs.declared.alloc.Global.{Global}
use Rattle.closed_ts.specs.Targets.{at_wall}
use Rattle.hlc.specs.Readings.{reading_of}
use Rattle.journal.specs.declared.entries.JournalEntry.TheVariants as entry
use Rattle.journal.specs.declared.events.Event.{Event}
use Rattle.mr_base.specs.declared.ids.NodeId.{NodeId}
use Rattle.mr_base.specs.declared.ids.RangeId.{RangeId}
use Rattle.mr_base.specs.declared.messages.Body.TheVariants as bodies
use Rattle.mr_base.specs.declared.messages.Body.{Body}
use Rattle.mr_base.specs.declared.timestamps.Ts.{Ts}
use Rattle.node_states.proofs.LineLemmas.{no_schema}
use Rattle.node_states.proofs.NodeLemmas.{node_tied_at}
use Rattle.node_states.specs.Placed.{IsLeasedBy}
use Rattle.node_states.specs.Stage.{AreNumbered, IsOfNode, IsPlaced, range_setup}
use Rattle.node_states.specs.Ties.{IsAskPlaced, IsMessagePlaced, MailsTied}
use Rattle.node_states.specs.declared.stage.RangePlan.{RangePlan}
use Rattle.range_log.specs.Facts.{lease_of}
use Rattle.range_log.specs.declared.entries.Entry.TheVariants as log
use Rattle.range_log.specs.declared.entries.Entry.{Entry}
use Rattle.range_log.specs.declared.entries.Lease.{Lease}
use Rattle.range_replicas.specs.Beginning.{BeginsWith}
use Rattle.range_replicas.specs.RangeValue.{RangeValue, replicas}
use Rattle.range_replicas.specs.Sound.{IsSound}
use Rattle.range_replicas.specs.declared.range.ReplicatedRange.{ReplicatedRange}
use Rattle.range_rules.specs.Leases.{IsFirst}
use Rattle.range_server.specs.declared.standing.Standing.{Standing}
use Rattle.replica_states.proofs.MakingLemmas.{IsNewRange, first_item, is_behind, log_other, log_same, making_next, ranges_next}
use Rattle.replica_states.proofs.OneRange.{ranges_numbered}
use Rattle.replica_states.proofs.RangeLemmas.{plan_found, setup_numbers, numbered_at}
use Rattle.replica_states.specs.FirstRange.{boot_in, first_wall, no_node, node_in, reading_in}
use Rattle.replica_states.specs.Making.{IsMaking}
use Rattle.replica_states.specs.RangeTies.{planned}
use Rattle.request_routes.specs.declared.hints.Hints.{Hints}
use Rattle.run_laws.specs.Appended.{IsFirstLease}
use Rattle.run_laws.specs.RangeLines.{reached}
use Rattle.run_words.specs.Askers.{range_asked}
use Rattle.run_words.specs.Clocks.{reading, schema}
use Rattle.run_words.specs.History.{History, Made}
use Rattle.run_words.specs.Logs.{applied, log_of}
use Rattle.run_words.specs.Nodes.{boot}
use Rattle.run_words.specs.Ranges.{range_of, voters_of}
use Rattle.run_words.specs.Setup.{RangeSetup, Setup}
use Rattle.run_words.specs.Steps.{event_of}
use Rattle.cluster_state.specs.Tied.{IsTied, IsTiedTo, past, the_setup}
use Rattle.cluster_state.specs.declared.state.State.{State}

-- A range is made in the state.

-- what the nodes show where the range is made is what the words say
boot_told : (s : State) (n : NodeId) → IsTied s → IsOfNode (length s.nodes.items) n → boot_in s.nodes.items n ≡ boot (the_setup s) (past s) n
boot_told s n t there = (node_tied_at (the_setup s) (past s) s.nodes.items s.running n (n.0 - 1) no_node t.nodes_are (omega (arith, there.0)) (omega (arith, there.0, there.1))).2

reading_told : (s : State) (n : NodeId) → IsTied s → IsOfNode (length s.nodes.items) n → reading_in s.nodes.items n ≡ reading (the_setup s) (past s) n
reading_told s n t there =
    let at : _ = node_tied_at (the_setup s) (past s) s.nodes.items s.running n (n.0 - 1) no_node t.nodes_are (omega (arith, there.0)) (omega (arith, there.0, there.1)) in
    ap₂ reading_of at.0 at.1

-- the boots of its servers
boots_told : (s : State) (r : RangeValue) (ns : List NodeId) → IsTied s → All (IsOfNode (length s.nodes.items)) ns → map (λ (x : Standing). x.node) r.servers ≡ ns
    → map (λ (x : Standing). x.boot) r.servers ≡ map (boot_in s.nodes.items) ns → All (λ (x : Standing). x.boot ≡ boot (the_setup s) (past s) x.node) r.servers
boots_told s r ns t there nodes boots k d l =
    let lk : k < length ns = omega (arith, l, ap length nodes, length-map r.servers (λ (x : Standing). x.node)) in
    let node : (get_or r.servers k d).node ≡ get_or ns k d.node =
    sym (get_or-map (λ (x : Standing). x.node) r.servers k d d.node l) ∙ ap (λ (xs : List NodeId). get_or xs k d.node) nodes in
    let own : (get_or r.servers k d).boot ≡ boot_in s.nodes.items (get_or ns k d.node) =
    sym (get_or-map (λ (x : Standing). x.boot) r.servers k d d.boot l) ∙ ap (λ (xs : List ℕ). get_or xs k d.boot) boots ∙ get_or-map (boot_in s.nodes.items) ns k d.node d.boot lk in
    own ∙ boot_told s (get_or ns k d.node) t (there k d.node lk) ∙ ap (boot (the_setup s) (past s)) (sym node)

some_is : {X : Type 0} (a b : X) → Some a ≡ Some b → a ≡ b
some_is a b e = ap (λ (o : Option _). unwrap_or o a) e

-- ---- the lease is the first

-- its voters begin with its holder
voters_from : (voters : List NodeId) (n : NodeId) → slice_get voters 0 ≡ Some n → (more : List NodeId) × (voters ≡ n ∷ more)
voters_from [] n e = absurd (cc)
voters_from (v ∷ more) n e = (more, ap (λ (x : NodeId). x ∷ more) (some_is v n e))

front_there : (s : State) (n : NodeId) (more others : List NodeId) → All (IsOfNode (length s.nodes.items)) ((n ∷ more) ++ others) → IsOfNode (length s.nodes.items) n
front_there s n more others a = a 0 n (omega arith)

first_of : (s : State) (plan : RangePlan) (entries : List Entry) (lease : Lease) (zero : Ts) → zero ≡ at_wall 0 → IsTied s → All (IsOfNode (length s.nodes.items)) (plan.voters ++ plan.others)
    → BeginsWith plan.voters (map (boot_in s.nodes.items) (plan.voters ++ plan.others)) (first_wall s.nodes.items plan.voters) s.stage.settings.lease zero entries
    → lease_of entries ≡ Some lease
    → (holder : NodeId) × ((more : List NodeId) × (plan.voters ≡ holder ∷ more)) × (entries ≡ log.Lease lease ∷ [])
    × IsFirst lease holder (boot (the_setup s) (past s) holder) (reading (the_setup s) (past s) holder).wall s.stage.settings.lease (unwrap_or (schema (the_setup s) (past s)) (at_wall 0))
first_of s plan entries lease base z t there b last =
    let same : b.lease ≡ lease = some_is b.lease lease (sym (ap lease_of b.alone) ∙ last) in
    let v : (more : List NodeId) × (plan.voters ≡ b.lease.holder ∷ more) = voters_from plan.voters b.lease.holder b.holder in
    let own : IsOfNode (length s.nodes.items) b.lease.holder = front_there s b.lease.holder v.0 plan.others (subst (λ (ns : List NodeId). All (IsOfNode (length s.nodes.items)) (ns ++ plan.others)) v.1 there) in
    let boot_is : b.lease.boot ≡ boot (the_setup s) (past s) b.lease.holder =
    sym (some_is (boot_in s.nodes.items b.lease.holder) b.lease.boot (sym (ap (λ (ns : List NodeId). slice_get (map (boot_in s.nodes.items) (ns ++ plan.others)) 0) v.1) ∙ b.boot))
    ∙ boot_told s b.lease.holder t own in
    let wall : first_wall s.nodes.items plan.voters ≡ (reading (the_setup s) (past s) b.lease.holder).wall =
    ap (first_wall s.nodes.items) v.1 ∙ ap (λ r. r.wall) (reading_told s b.lease.holder t own) in
    let low : base ≡ unwrap_or (schema (the_setup s) (past s)) (at_wall 0) = z ∙ ap (λ (o : Option Ts). unwrap_or o (at_wall 0)) (sym (no_schema s.stage (past s) t.laws)) in (
      b.lease.holder,
      v,
      b.alone ∙ ap (λ (l : Lease). log.Lease l ∷ []) same,
      subst (λ (l : Lease). IsFirst l b.lease.holder (boot (the_setup s) (past s) b.lease.holder) (reading (the_setup s) (past s) b.lease.holder).wall s.stage.settings.lease (unwrap_or (schema (the_setup s) (past s)) (at_wall 0))) same
          (record {
            seq = b.first.seq;
            holder_is = refl;
            boot_is = boot_is;
            expiration = b.first.expiration ∙ ap (λ w. w + s.stage.settings.lease) wall;
            low_is = b.first.low_is ∙ low;
          }),
    )

-- ---- the state with the range

abbrev pub with_range : State → Vec ReplicatedRange Global → Vec Hints Global → State
with_range s ranges hints = record s { ranges = ranges; hints = hints }

filled : (e : Entry) (older : List Entry) → e ∷ older ≡ [] → ⊥
filled e older q = cc

number_or_not : (a b : ℕ) → (a ≡ b) ⊎ (a ≢ b)
number_or_not a b = grind arith

-- what was appended stays
log_stays : (setup : Setup) (h : History) (j i : RangeId) (lease : Lease) → (i.0 ≡ j.0) ⊎ (i.0 ≢ j.0) → log_of setup h i ≢ [] → log_of setup (first_item j lease ∷ h) i ≢ []
log_stays setup h j i lease (inl e) some q = filled (log.Lease lease) (log_of setup h i) (sym (log_same setup h j i lease e) ∙ q)
log_stays setup h j i lease (inr ne) some q = some (sym (log_other setup h j i lease ne) ∙ q)

ask_stays : (setup : Setup) (h : History) (j : RangeId) (lease : Lease) (to : NodeId) (body : Body) → IsAskPlaced setup (log_of setup h) to body → IsAskPlaced setup (log_of setup (first_item j lease ∷ h)) to body
ask_stays setup h j lease to (bodies.Request q) a = (a.0, log_stays setup h j (range_asked q) lease (number_or_not (range_asked q).0 j.0) a.1)
ask_stays setup h j lease to (bodies.Reply reply) a = tt

mails_stay : (s : State) (j : RangeId) (lease : Lease) → MailsTied (the_setup s) (past s) (length s.stage.nodes) s.sent s.flight.messages
    → MailsTied (the_setup s) (first_item j lease ∷ past s) (length s.stage.nodes) s.sent s.flight.messages
mails_stay s j lease m =
    record {
      tied = m.tied;
      placed = λ k d l. let p : IsMessagePlaced (the_setup s) (log_of (the_setup s) (past s)) (length s.stage.nodes) (get_or s.flight.messages k d) = m.placed k d l in
          record { sender = p.sender; receiver = p.receiver; asks = ask_stays (the_setup s) (past s) j lease (get_or s.flight.messages k d).to (get_or s.flight.messages k d).body p.asks };
    }

no_more : (k : ℕ) → 0 + k + 1 ≡ k + 1
no_more k = omega arith

-- the number and the plan of the next range
plan_number : (s : State) (plan : RangePlan) → IsTied s → length s.ranges.items < length s.stage.ranges → plan ≡ get_or s.stage.ranges (length s.ranges.items) plan
    → plan.number.0 ≡ length s.ranges.items + 1
plan_number s plan t within is =
    let at : get_or (map (λ (p : RangePlan). p.number.0) s.stage.ranges) (length s.ranges.items) plan.number.0 ≡ 0 + length s.ranges.items + 1 =
    numbered_at 0 (map (λ (p : RangePlan). p.number.0) s.stage.ranges) (length s.ranges.items) plan.number.0 t.staged.numbered (omega (arith, within, length-map s.stage.ranges (λ (p : RangePlan). p.number.0))) in
    ap (λ (p : RangePlan). p.number.0) is ∙ sym (get_or-map (λ (p : RangePlan). p.number.0) s.stage.ranges (length s.ranges.items) plan plan.number.0 within) ∙ at ∙ no_more (length s.ranges.items)

plan_setup : (s : State) (plan : RangePlan) (d : RangeSetup) → length s.ranges.items < length s.stage.ranges → plan ≡ get_or s.stage.ranges (length s.ranges.items) plan
    → range_setup plan ≡ get_or (map range_setup s.stage.ranges) (length s.ranges.items) d
plan_setup s plan d within is = ap range_setup is ∙ sym (get_or-map range_setup s.stage.ranges (length s.ranges.items) plan d within)

range_told : (s : State) (plan : RangePlan) → IsTied s → length s.ranges.items < length s.stage.ranges → plan ≡ get_or s.stage.ranges (length s.ranges.items) plan
    → range_of (the_setup s) (past s) plan.number ≡ Some (range_setup plan)
range_told s plan t within is =
    plan_found 0 (the_setup s).ranges plan.number (length s.ranges.items) (range_setup plan)
    (subst (λ (ns : List ℕ). AreNumbered 0 ns) (sym (setup_numbers s.stage.ranges)) t.staged.numbered) (omega (arith, within, length-map s.stage.ranges range_setup))
    (plan_number s plan t within is ∙ sym (no_more (length s.ranges.items)))
    ∙ ap Some (sym (plan_setup s plan (range_setup plan) within is))

there_of : (s : State) (plan : RangePlan) → IsTied s → length s.ranges.items < length s.stage.ranges → plan ≡ get_or s.stage.ranges (length s.ranges.items) plan
    → All (IsOfNode (length s.nodes.items)) (plan.voters ++ plan.others)
there_of s plan t within is =
    subst (λ (k : ℕ). All (IsOfNode k) (plan.voters ++ plan.others)) (sym t.count)
    (subst (IsPlaced (length s.stage.nodes)) (sym is) (t.staged.placed (length s.ranges.items) plan within)).nodes

pub range_number : (s : State) (plan : RangePlan) (r : RangeValue) → planned r ≡ range_setup plan → IsTied s → length s.ranges.items < length s.stage.ranges
    → plan ≡ get_or s.stage.ranges (length s.ranges.items) plan → r.number.0 ≡ length s.ranges.items + 1
range_number s plan r p t within is = ap (λ (x : RangeSetup). x.number.0) p ∙ plan_number s plan t within is

-- what was made of the range
pub record IsNew (s : State) (plan : RangePlan) (zero : Ts) (lease : Lease) (r : RangeValue) : Type 0 where
  pub planned_is : planned r ≡ range_setup plan
  pub boots : map (λ (x : Standing). x.boot) r.servers ≡ map (boot_in s.nodes.items) (plan.voters ++ plan.others)
  pub first : BeginsWith plan.voters (map (boot_in s.nodes.items) (plan.voters ++ plan.others)) (first_wall s.nodes.items plan.voters) s.stage.settings.lease zero r.log.entries
  pub begun : All (λ (x : Standing). x.replica.applied ≡ 1) r.servers
  pub sound : IsSound r
  pub last : lease_of r.log.entries ≡ Some lease

pub range_made : (s : State) (ranges : Vec ReplicatedRange Global) (hints : Vec Hints Global) (plan : RangePlan) (zero : Ts) (r : RangeValue) (lease : Lease) → zero ≡ at_wall 0 → IsTied s
    → IsMaking (the_setup s) (past s) (length s.ranges.items) → length s.ranges.items < length s.stage.ranges → plan ≡ get_or s.stage.ranges (length s.ranges.items) plan
    → IsNew s plan zero lease r → ranges.items ≡ s.ranges.items ++ r ∷ [] → IsTiedTo (first_item r.number lease ∷ past s) (with_range s ranges hints)
range_made s ranges hints plan base r lease z t m within is n pushed =
    let there : All (IsOfNode (length s.nodes.items)) (plan.voters ++ plan.others) = there_of s plan t within is in
    let number_is : r.number ≡ plan.number = ap (λ (p : RangeSetup). p.number) n.planned_is in
    let number : r.number.0 ≡ length s.ranges.items + 1 = ap (λ (j : RangeId). j.0) number_is ∙ plan_number s plan t within is in
    let f : (holder : NodeId) × ((more : List NodeId) × (plan.voters ≡ holder ∷ more)) × (r.log.entries ≡ log.Lease lease ∷ [])
    × IsFirst lease holder (boot (the_setup s) (past s) holder) (reading (the_setup s) (past s) holder).wall s.stage.settings.lease (unwrap_or (schema (the_setup s) (past s)) (at_wall 0)) =
    first_of s plan r.log.entries lease base z t there n.first n.last in
    let old : (log_of (the_setup s) (past s) r.number ≡ []) × ((x : NodeId) → applied (the_setup s) (past s) x r.number ≡ 0) = m.unmade r.number (omega (arith, number)) in
    let told : range_of (the_setup s) (past s) r.number ≡ Some (range_setup plan) = ap (range_of (the_setup s) (past s)) number_is ∙ range_told s plan t within is in
    let nodes : map (λ (x : Standing). x.node) r.servers ≡ plan.voters ++ plan.others = n.sound.nodes ∙ ap (λ (p : RangeSetup). p.voters ++ p.others) n.planned_is in
    record {
      staged = t.staged;
      laws = (
        record {
          order = inl (m.line, is_behind (reached (past s)) (length s.ranges.items) r.number m.reached_to number);
          message = tt;
          append = record {
            live = subst IsSome (sym told) refl;
            index_is = ap (λ (es : List Entry). length es + 1) (sym old.0);
            by = subst (λ (v : Option Event). IsLeasedBy (the_setup s) (past s) r.number lease v) (sym m.line)
                (record { first = old.0; holder = f.0; voter = (f.1.0, ap (λ (o : Option RangeSetup). option_map_or (λ p. p.voters) o []) told ∙ f.1.1); is = f.3 });
          };
          waited = tt;
          begun = tt;
        },
        t.laws,
      );
      count = t.count;
      nodes_are = t.nodes_are;
      ranges_are = rw pushed (ranges_next (the_setup s) (past s) s.ranges.items lease r t.ranges_are (ranges_numbered s.stage s.ranges.items t.staged t.ranges_are.plans_are) m number
          (omega (arith, within, length-map s.stage.ranges range_setup)) (n.planned_is ∙ plan_setup s plan (planned r) within is)
          (record { sound = n.sound; log_is = f.2; applied_are = n.begun; boots_are = boots_told s r (plan.voters ++ plan.others) t there nodes n.boots }));
      mails_are = mails_stay s r.number lease t.mails_are;
      begun_are = t.begun_are;
      sent_are = t.sent_are;
    }

pub one_longer : (old new : List RangeValue) (r : RangeValue) → new ≡ old ++ r ∷ [] → length new ≡ length old + 1
one_longer old new r e = ap length e ∙ length-append old (r ∷ [])
