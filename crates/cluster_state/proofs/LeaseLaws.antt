-- A lease that is appended is what the laws say.
use Rattle.std.proofs.Common.{◌≡◌, ◌≢◌, ◌<◌, ◌-◌, ◌+◌, ◌∙◌, ◌++◌, ℕ, true, List, [], ◌∷◌, Option, Some, Ok, All, Contains, IsSome, map, get_or, length, length-append, find, refl, sym, ap, subst, arith}
use Rattle.std.specs.Option.{option_map, option_map_or}
use Rattle.std.proofs.lemmas.List.{get_or-map, length-map}
use Rattle.range_server.specs.declared.standing.Standing.{Standing}
use Rattle.mr_base.specs.Nodes.{IsMember, IsNode}
use Rattle.mr_base.specs.declared.ids.NodeId.{NodeId}
use Rattle.mr_base.specs.declared.ids.RangeId.{RangeId}
use Rattle.mr_base.specs.declared.nodes.NodeSet.{NodeSet}
use Rattle.mr_base.specs.declared.timestamps.Reading.{Reading}
use Rattle.node_states.specs.Placed.{IsLeasedBy}
use Rattle.node_states.specs.declared.states.NodeState.{NodeState}
use Rattle.range_log.specs.Facts.{first_entries, lease_of}
use Rattle.range_log.specs.declared.entries.Entry.{Entry}
use Rattle.range_log.specs.declared.entries.Entry.TheVariants as log
use Rattle.range_log.specs.declared.entries.Lease.{Lease}
use Rattle.range_replicas.specs.RangeValue.{RangeValue, nobody, scene_at, server_at}
use Rattle.range_replicas.specs.Voters.{MajorityIsMoreThanHalf}
use Rattle.range_rules.specs.Leases.{IsAcquired, IsExtended, IsTransferred}
use Rattle.range_server.specs.Scene.{Holds, Scene, moment}
use Rattle.replica_states.proofs.RangeLemmas.{plan_made}
use Rattle.replica_states.specs.RangeTies.{planned}
use Rattle.run_laws.specs.Appended.{IsActing}
use Rattle.run_words.specs.Clocks.{reading}
use Rattle.run_words.specs.Logs.{applied, holder_of, log_of, prefix}
use Rattle.run_words.specs.Nodes.{boot, is_running}
use Rattle.run_words.specs.Ranges.{HasQuorum, has_number, range_of, replicas_of, voters_of}
use Rattle.run_words.specs.Setup.{RangeSetup}
use Rattle.cluster_state.proofs.LeaseTies.{IsAppender}
use Rattle.cluster_state.proofs.MemberLemmas.{member_of}
use Rattle.cluster_state.proofs.Quorum.{front_all, quorum_of}
use Rattle.cluster_state.proofs.RangeLemmas.{applied_there, boot_there, log_is, numbered, range_tied}
use Rattle.cluster_state.proofs.ReplicaThere.{replica_there}
use Rattle.cluster_state.specs.LeaseMoves.{Gives, IsAskAt, lease_event}
use Rattle.cluster_state.specs.Tied.{IsThere, IsTied, past, the_setup}
use Rattle.cluster_state.specs.declared.leases.Ask.{Ask}
use Rattle.cluster_state.specs.declared.leases.Ask.TheVariants as asks
use Rattle.cluster_state.specs.declared.state.State.{State}

-- the log grew by the lease
pub leased_grown : (ask : Ask) (sc : Scene) (lease : Lease) (after : List Entry) → Gives ask sc (Ok lease) after → after ≡ log.Lease lease ∷ sc.log.entries
leased_grown asks.Acquire sc lease after g = g.appended
leased_grown (asks.Transfer to b) sc lease after g = g.appended
leased_grown asks.Extend sc lease after g = g.appended

-- a replica's node is there
pub replica_node : (s : State) (t : IsTied s) (j : RangeId) (made : log_of (the_setup s) (past s) j ≢ []) (r : RangeValue)
    (is : r ≡ get_or s.ranges.items (j.0 - 1) r) (place : ℕ) (n : NodeId) → place < length r.servers → (server_at place r).node ≡ n → IsThere s.stage n
replica_node s t j made r is place n there at =
    let sound = (range_tied s (past s) t j made r is).sound in
    let node_at : Standing → NodeId = λ x. x.node in
    let found : find (has_number j) (the_setup s).ranges ≡ Some (planned r)
    = plan_made (log_of (the_setup s) (past s)) (applied (the_setup s) (past s)) (boot (the_setup s) (past s)) (the_setup s).ranges s.ranges.items (numbered s (past s) t) t.ranges_are j r made
    ∙ ap (λ (x : RangeValue). Some (planned x)) (sym is) in
    let held : replicas_of (the_setup s) (past s) j ≡ r.voters ++ r.others
    = ap (λ (o : Option RangeSetup). option_map_or (λ range. range.voters ++ range.others) o []) found in
    let among : Contains (map node_at r.servers) n
    = (place, omega (arith, there, length-map r.servers node_at), get_or-map node_at r.servers place nobody n there ∙ at) in
    replica_there s.stage (past s) n j t.staged
    (subst (λ (ns : List NodeId). Contains ns n) (sym held) (subst (λ (ns : List NodeId). Contains ns n) sound.nodes among))

module _ (law : MajorityIsMoreThanHalf) (s : State) (t : IsTied s) (j : RangeId) (made : log_of (the_setup s) (past s) j ≢ []) (r : RangeValue)
    (is : r ≡ get_or s.ranges.items (j.0 - 1) r) (place : ℕ) (n : NodeId) (there : place < length r.servers) (at : (server_at place r).node ≡ n)
    (clock : Reading) (clock_is : clock ≡ reading (the_setup s) (past s) n) (runs : is_running (the_setup s) (past s) n ≡ true) (node : NodeState) where
  abbrev found : Scene
  found = scene_at place r (moment clock s.stage.settings s.running)

  log_same : r.log.entries ≡ log_of (the_setup s) (past s) j
  log_same = log_is s (past s) t j made r is

  plan : find (has_number j) (the_setup s).ranges ≡ Some (planned r)
  plan = plan_made (log_of (the_setup s) (past s)) (applied (the_setup s) (past s)) (boot (the_setup s) (past s)) (the_setup s).ranges s.ranges.items (numbered s (past s) t) t.ranges_are j r made
      ∙ ap (λ (x : RangeValue). Some (planned x)) (sym is)

  voters : voters_of (the_setup s) (past s) j ≡ r.voters
  voters = ap (λ (o : Option RangeSetup). option_map_or (λ range. range.voters) o []) plan

  is_voter : (m : NodeId) → IsNode m → IsMember r.log.voters m → Contains (voters_of (the_setup s) (past s) j) m
  is_voter m one h =
      let sound = (range_tied s (past s) t j made r is).sound in
      subst (λ (ns : List NodeId). Contains ns m) (sym voters)
      (member_of r.voters m (front_all IsNode r.voters r.others sound.numbered) one (subst (λ (v : NodeSet). IsMember v m) sound.voters h))

  last_is : (last : Lease) → lease_of r.log.entries ≡ Some last → lease_of (log_of (the_setup s) (past s) j) ≡ Some last
  last_is last e = ap lease_of (sym log_same) ∙ e

  prefix_is : first_entries (server_at place r).replica.applied r.log.entries ≡ prefix (the_setup s) (past s) n j
  prefix_is =
      ap (λ (k : ℕ). first_entries k r.log.entries) (applied_there s (past s) t j made r is place n there at)
      ∙ ap (λ (es : List Entry). first_entries (applied (the_setup s) (past s) n j) es) log_same

  acting : (last : Lease) → Holds found last → IsActing (the_setup s) (past s) last.holder j
  acting last holds =
      let holder : n ≡ last.holder = sym (holds.names.0 ∙ at) in
      subst (λ (m : NodeId). IsActing (the_setup s) (past s) m j) holder
      (runs, (last, ap lease_of (sym prefix_is) ∙ holds.has, last_is last holds.last, sym holder, holds.names.1 ∙ boot_there s (past s) t j made r is place n there at))

  clock_of : (last : Lease) → Holds found last → clock.wall ≡ (reading (the_setup s) (past s) last.holder).wall
  clock_of last holds =
      let holder : n ≡ last.holder = sym (holds.names.0 ∙ at) in
      ap (λ (x : Reading). x.wall) (clock_is ∙ ap (reading (the_setup s) (past s)) holder)

  is_node : IsNode n
  is_node =
      let sound = (range_tied s (past s) t j made r is).sound in
      let node_at : Standing → NodeId = λ x. x.node in
      let nodes : All IsNode (map node_at r.servers) = subst (λ (ns : List NodeId). All IsNode ns) (sym sound.nodes) sound.numbered in
      subst IsNode (get_or-map node_at r.servers place nobody nobody.node there ∙ at)
      (nodes place nobody.node (omega (arith, there, length-map r.servers node_at)))

  pub live : IsSome (range_of (the_setup s) (past s) j)
  live = subst (λ (o : Option RangeSetup). IsSome o) (sym plan) refl

  pub next_lease : (ask : Ask) (lease : Lease) (after : List Entry) → IsAskAt ask (the_setup s) (past s) → Gives ask found (Ok lease) after
      → IsLeasedBy (the_setup s) (past s) j lease (Some (lease_event ask j n))
  next_lease asks.Acquire lease after to g =
      let boots : (server_at place r).boot ≡ boot (the_setup s) (past s) n = boot_there s (past s) t j made r is place n there at in
      let member : IsMember r.log.voters n = subst (λ (m : NodeId). IsMember r.log.voters m) at g.voter in (
        g.last,
        last_is g.last g.is_last,
        quorum_of law s (past s) j r node t made is g.quorum,
        (
          is_voter n is_node member,
          runs,
          subst (λ (w : Reading). IsAcquired g.last lease n (boot (the_setup s) (past s) n) w.wall s.stage.settings.lease) clock_is
              (subst (λ (b : ℕ). IsAcquired g.last lease n b clock.wall s.stage.settings.lease) boots
              (subst (λ (m : NodeId). IsAcquired g.last lease m (server_at place r).boot clock.wall s.stage.settings.lease) at g.acquired)),
        ),
      )
  next_lease (asks.Transfer m b) lease after to g = (
    g.last,
    last_is g.last g.holds.last,
    quorum_of law s (past s) j r node t made is g.quorum,
    (
      is_voter m to.0 g.voter,
      acting g.last g.holds,
      subst (λ (w : ℕ). IsTransferred g.last lease m (boot (the_setup s) (past s) m) w s.stage.settings.lease) (clock_of g.last g.holds)
          (subst (λ (x : ℕ). IsTransferred g.last lease m x clock.wall s.stage.settings.lease) to.1 g.transferred),
    ),
  )
  next_lease asks.Extend lease after to g = (
    g.last,
    last_is g.last g.holds.last,
    quorum_of law s (past s) j r node t made is g.quorum,
    (acting g.last g.holds, subst (λ (w : ℕ). IsExtended g.last lease w s.stage.settings.lease) (clock_of g.last g.holds) g.extended),
  )

  holder_is : (last : Lease) → Holds found last → holder_of (log_of (the_setup s) (past s) j) ≡ Some n
  holder_is last holds = ap (option_map (λ (x : Lease). x.holder)) (last_is last holds.last) ∙ ap (λ (m : NodeId). Some m) (holds.names.0 ∙ at)

  pub appender : (ask : Ask) (lease : Lease) (after : List Entry) → Gives ask found (Ok lease) after → IsAppender ask (log_of (the_setup s) (past s) j) n
  appender asks.Acquire lease after g = refl
  appender (asks.Transfer m b) lease after g = holder_is g.last g.holds
  appender asks.Extend lease after g = holder_is g.last g.holds
