use Rattle.std.proofs.Common.{◌≡◌, ◌==◌, ◌<◌, ◌+◌, ◌-◌, ℕ, zero, suc, Bool, true, List, [], Vec, Contains, get_or, None, ◌∷◌, ◌++◌, Some, false, refl, sym, ap, ◌∙◌, subst, map, length, take, drop, arith}
use Rattle.std.specs.Prelude.{if◌then◌else◌, ◌≤◌}
use Rattle.std.proofs.lemmas.Bool.Decides.{nat_tests}
use Rattle.std.specs.declared.alloc.Global.{Global}
use Rattle.std.specs.List.{All}
use Rattle.std.specs.Vec.{with_items}
use Rattle.std.proofs.lemmas.List.{get_or-map, get_or_default, length-map, with_items_is}
use Rattle.std.proofs.Math.Seq.{take-append_seam}
use Rattle.journal.specs.declared.events.Event.{Event}
use Rattle.journal.specs.declared.events.Event.TheVariants as events
use Rattle.mr_base.specs.declared.ids.NodeId.{NodeId}
use Rattle.mr_base.specs.declared.nodes.NodeSet.{NodeSet}
use Rattle.node_states.proofs.LineLemmas.{line_keeps, ticked_keeps}
use Rattle.node_states.specs.Moves.{move_of, moved, started}
use Rattle.node_states.specs.Placed.{KeepsLaws}
use Rattle.node_states.specs.Stage.{AreNumbered, IsStage, node_setup, setup_of}
use Rattle.node_states.specs.Ties.{IsAmong, MailsTied, NodesTied}
use Rattle.node_states.specs.declared.moves.Move.{Move}
use Rattle.node_states.specs.declared.stage.NodePlan.{NodePlan}
use Rattle.node_states.specs.declared.stage.Stage.{Stage}
use Rattle.range_replicas.specs.RangeValue.{RangeValue}
use Rattle.range_replicas.specs.Sound.{IsSound}
use Rattle.range_replicas.specs.declared.range.ReplicatedRange.{ReplicatedRange}
use Rattle.replica_states.proofs.RestartTies.{ranges_restart, servers_before}
use Rattle.replica_states.specs.RangeTies.{RangesTied}
use Rattle.replica_states.specs.Restarts.{IsAhead, boot_in, moved_ranges, no_node, restarted}
use Rattle.request_routes.specs.declared.hints.Hints.{Hints}
use Rattle.run_words.specs.Logs.{applied, log_of}
use Rattle.run_words.specs.Nodes.{boot}
use Rattle.run_words.specs.Setup.{NodeSetup, node_ids}
use Rattle.cluster_state.proofs.NodeAt.{id_at, is_inside, tied_at}
use Rattle.run_words.specs.Messages.{messages}
use Rattle.run_words.specs.Transactions.{attempts}
use Rattle.node_states.specs.declared.moves.Move.TheVariants as moves
use Rattle.node_states.specs.declared.states.NodeState.{NodeState}
use Rattle.run_laws.specs.OrderEvents.{IsLineDue, NamesNode}
use Rattle.run_words.specs.History.{History, Ran, Ticked}
use Rattle.run_words.specs.Steps.{event_of, has_ticked}
use Rattle.cluster_state.specs.Tied.{IsThere, IsTied, IsTiedTo, past, the_setup}
use Rattle.cluster_state.specs.declared.state.State.{State}

-- A line, and the tick inside a `settle` line.

-- a node that a line names is there
numbers_named : (from : ℕ) (plans : List NodePlan) (k : ℕ) (n : NodeId) → AreNumbered from (map (λ (p : NodePlan). p.info.id.0) plans) → k < length plans
    → get_or (map (λ (node : NodeSetup). node.info.id) (map node_setup plans)) k n ≡ n → n.0 ≡ from + k + 1
numbers_named from [] k n a h e = absurd (let no : ⊥ = omega (arith, h) in no)
numbers_named from (p ∷ plans) zero n a h e = ap (λ (x : NodeId). x.0) (sym e) ∙ a.0 ∙ omega arith
numbers_named from (p ∷ plans) (suc k) n a h e = numbers_named (from + 1) plans k n a.1 (omega (arith, h)) e ∙ omega arith

pub named_there : (stage : Stage) (n : NodeId) → IsStage stage → Contains (node_ids (setup_of stage)) n → IsThere stage n
named_there stage n staged c =
    let ids = map (λ (node : NodeSetup). node.info.id) (map node_setup stage.nodes) in
    let long : length ids ≡ length stage.nodes
    = length-map (map node_setup stage.nodes) (λ (node : NodeSetup). node.info.id) ∙ length-map stage.nodes node_setup in
    let within : c.0 < length stage.nodes = omega (arith, c.1, long) in
    let number : n.0 ≡ 0 + c.0 + 1 = numbers_named 0 stage.nodes c.0 n staged.nodes.numbered within c.2 in
    (omega (arith, number), omega (arith, number, within))

-- no more than 64 nodes are kept
pub few_nodes : (s : State) → IsTied s → length s.nodes.items ≤ 64
few_nodes s t = let c : length s.nodes.items ≡ length s.stage.nodes = t.count in let f : length s.stage.nodes ≤ 64 = t.staged.nodes.few in grind (arith, c, f)

-- the nodes moved
abbrev pub with_nodes : State → List NodeState → NodeSet → State
with_nodes s nodes running = record s { nodes = with_items s.nodes nodes; running = running }

-- a list that was written over as much room
items_back : (len : ℕ) (new old : List NodeState) → len ≡ length new → take len (new ++ drop (length new) old) ≡ new
items_back len new old e = ap (λ (k : ℕ). take k (new ++ drop (length new) old)) e ∙ take-append_seam new (drop (length new) old)

-- the nodes that were moved stand where they stood
moved_back : (s : State) (f : NodeState → NodeState) (old nodes : List NodeState) (running : NodeSet) → old ≡ s.nodes.items → length old ≡ s.nodes.len → nodes ≡ map f old
    → (with_nodes s nodes running).nodes.items ≡ nodes
moved_back s f old nodes running e l m = items_back s.nodes.len nodes s.nodes.items (sym (ap length m ∙ length-map old f ∙ l))

same_count : (s : State) (f : NodeState → NodeState) (nodes : List NodeState) → IsTied s → nodes ≡ map f s.nodes.items → length nodes ≡ length s.stage.nodes
same_count s f nodes t e = ap length e ∙ length-map s.nodes.items f ∙ t.count

-- the nodes moved as a line, or the tick, moves them
moved_tied : (s : State) (h : History) (f : NodeState → NodeState) (nodes : List NodeState) (running : NodeSet) → IsTied s → KeepsLaws (the_setup s) h
    → (with_nodes s nodes running).nodes.items ≡ nodes → nodes ≡ map f s.nodes.items → NodesTied (the_setup s) h nodes running → RangesTied (the_setup s) h s.ranges.items
    → MailsTied (the_setup s) h (length s.stage.nodes) s.sent s.flight.messages → s.attempts ≡ attempts (the_setup s) h → s.sent ≡ messages (the_setup s) h
    → IsTiedTo h (with_nodes s nodes running)
moved_tied s h f nodes running t laws back e n r m b u =
    record {
      staged = t.staged;
      laws = laws;
      count = ap length back ∙ same_count s f nodes t e;
      nodes_are = subst (λ (ns : List NodeState). NodesTied (the_setup s) h ns running) (sym back) n;
      ranges_are = r;
      mails_are = m;
      begun_are = b;
      sent_are = u;
    }

pub ticked_tied : (s : State) (ms : ℕ) (old nodes : List NodeState) (running : NodeSet) → IsTied s → event_of (past s) ≡ Some (events.Settle ms) → has_ticked (past s) ≡ false
    → old ≡ s.nodes.items → length old ≡ s.nodes.len → nodes ≡ map (moved (moves.TickAll ms)) old → All (IsAmong running) nodes
    → IsTiedTo (Ticked ms ∷ past s) (with_nodes s nodes running)
ticked_tied s ms old nodes running t line once o l e among =
    let e2 : nodes ≡ map (moved (moves.TickAll ms)) s.nodes.items = e ∙ ap (map (moved (moves.TickAll ms))) o in
    moved_tied s (Ticked ms ∷ past s) (moved (moves.TickAll ms)) nodes running t
    (record { order = (line, once); message = tt; append = tt; waited = tt; begun = tt }, t.laws) (moved_back s (moved (moves.TickAll ms)) old nodes running o l e) e2
    (subst (λ (ns : List NodeState). NodesTied (the_setup s) (Ticked ms ∷ past s) ns running) (sym e2)
    (ticked_keeps s.stage (past s) ms s.nodes.items s.running running t.nodes_are (subst (λ (ns : List NodeState). All (IsAmong running) ns) e2 among)))
    t.ranges_are t.mails_are t.begun_are t.sent_are

pub line_tied : (s : State) (line : ℕ) (event : Event) (move : Move) (old nodes : List NodeState) (running : NodeSet) → IsTied s → IsLineDue (event_of (past s)) (has_ticked (past s))
    → NamesNode (the_setup s) event → move ≡ move_of event → old ≡ s.nodes.items → length old ≡ s.nodes.len → nodes ≡ map (moved move) old → All (IsAmong running) nodes
    → (ranges : Vec ReplicatedRange Global) (hints : Vec Hints Global) → RangesTied (the_setup s) (Ran line event ∷ past s) ranges.items
    → IsTiedTo (Ran line event ∷ past s) (record (with_nodes s nodes running) { ranges = ranges; hints = hints })
line_tied s line event move old nodes running t due names m o l e among ranges hints are =
    let e2 : nodes ≡ map (moved (move_of event)) s.nodes.items = e ∙ ap (λ (x : Move). map (moved x) old) m ∙ ap (map (moved (move_of event))) o in
    let back = moved_back s (moved move) old nodes running o l e in
    record {
      staged = t.staged;
      laws = (record { order = (due, names); message = tt; append = tt; waited = tt; begun = tt }, t.laws);
      count = ap length back ∙ same_count s (moved (move_of event)) nodes t e2;
      nodes_are = subst (λ (ns : List NodeState). NodesTied (the_setup s) (Ran line event ∷ past s) ns running) (sym back)
          (subst (λ (ns : List NodeState). NodesTied (the_setup s) (Ran line event ∷ past s) ns running) (sym e2)
          (line_keeps s.stage (past s) line event s.nodes.items s.running running t.laws t.nodes_are (subst (λ (ns : List NodeState). All (IsAmong running) ns) e2 among)));
      ranges_are = are;
      mails_are = t.mails_are;
      begun_are = t.begun_are;
      sent_are = t.sent_are;
    }

-- the nodes are in the order of their numbers
pub boot_moved : (s : State) (n : NodeId) → IsTied s → IsThere s.stage n
    → boot_in (map (moved (moves.Start n)) s.nodes.items) n ≡ boot (the_setup s) (past s) n + 1
boot_moved s n t there =
    let inside = is_inside s (past s) n t there in
    let node = get_or s.nodes.items (n.0 - 1) no_node in
    let at : get_or (map (moved (moves.Start n)) s.nodes.items) (n.0 - 1) no_node ≡ moved (moves.Start n) node
    = get_or-map (moved (moves.Start n)) s.nodes.items (n.0 - 1) no_node no_node inside in
    let read : node ≡ get_or s.nodes.items (n.0 - 1) node = get_or_default s.nodes.items (n.0 - 1) no_node node inside in
    let id : node.id ≡ n = id_at s (past s) n node t there read in
    let here : (n.0 == node.id.0) ≡ true = (let e : n.0 ≡ node.id.0 = ap (λ (x : NodeId). x.0) (sym id) in grind (arith, nat_tests)) in
    let started_one : moved (moves.Start n) node ≡ started node = ap (λ (b : Bool). if b then started node else node) here in
    ap (λ (x : NodeState). x.boot) at ∙ ap (λ (x : NodeState). x.boot) started_one
    ∙ ap (λ (k : ℕ). k + 1) ((tied_at s (past s) n node t there read).boot_is ∙ ap (boot (the_setup s) (past s)) id)

pub line_ahead : (s : State) (event : Event) → IsTied s → NamesNode (the_setup s) event
    → IsAhead (move_of event) (map (moved (move_of event)) s.nodes.items) s.ranges.items
line_ahead s (events.Start n) t names =
    let there = named_there s.stage n t.staged names in (
      there.0,
      omega (arith, there.1, t.count, length-map s.nodes.items (moved (moves.Start n))),
      servers_before (log_of (the_setup s) (past s)) (applied (the_setup s) (past s)) (boot (the_setup s) (past s)) (the_setup s).ranges s.ranges.items n
          (boot_in (map (moved (moves.Start n)) s.nodes.items) n) (boot_moved s n t there) t.ranges_are,
    )
line_ahead s (events.Tick None ms) t names = tt
line_ahead s (events.Tick (Some n) ms) t names = tt
line_ahead s event t names = tt

pub line_ranges : (s : State) (line : ℕ) (event : Event) → IsTied s → NamesNode (the_setup s) event
    → All IsSound (moved_ranges (move_of event) (map (moved (move_of event)) s.nodes.items) s.ranges.items)
    → RangesTied (the_setup s) (Ran line event ∷ past s) (moved_ranges (move_of event) (map (moved (move_of event)) s.nodes.items) s.ranges.items)
line_ranges s line (events.Start n) t names sound =
    let there = named_there s.stage n t.staged names in
    ranges_restart (log_of (the_setup s) (past s)) (applied (the_setup s) (past s)) (boot (the_setup s) (past s)) (the_setup s).ranges s.ranges.items n
    (boot_in (map (moved (moves.Start n)) s.nodes.items) n) (boot_moved s n t there) t.ranges_are sound
line_ranges s line (events.Tick None ms) t names sound = t.ranges_are
line_ranges s line (events.Tick (Some n) ms) t names sound = t.ranges_are
line_ranges s line event t names sound = t.ranges_are

-- the same of what stands where the nodes and ranges are kept
pub nodes_after : (s : State) (event : Event) (move : Move) (old nodes : List NodeState) (running : NodeSet) → move ≡ move_of event → old ≡ s.nodes.items
    → length old ≡ s.nodes.len → nodes ≡ map (moved move) old → (with_nodes s nodes running).nodes.items ≡ map (moved (move_of event)) s.nodes.items
nodes_after s event move old nodes running m o l e =
    moved_back s (moved move) old nodes running o l e ∙ e ∙ ap (λ (x : Move). map (moved x) old) m ∙ ap (map (moved (move_of event))) o

pub ahead_after : (s : State) (event : Event) (move : Move) (nodes : List NodeState) (ranges : List RangeValue) → IsTied s → NamesNode (the_setup s) event
    → move ≡ move_of event → nodes ≡ map (moved (move_of event)) s.nodes.items → ranges ≡ s.ranges.items → IsAhead move nodes ranges
ahead_after s event move nodes ranges t names m n r =
    subst (λ (x : Move). IsAhead x nodes ranges) (sym m)
    (subst (λ (x : List NodeState). IsAhead (move_of event) x ranges) (sym n)
    (subst (λ (x : List RangeValue). IsAhead (move_of event) (map (moved (move_of event)) s.nodes.items) x) (sym r) (line_ahead s event t names)))

length_moved : (move : Move) (nodes : List NodeState) (ranges : List RangeValue) → length (moved_ranges move nodes ranges) ≡ length ranges
length_moved (moves.Start n) nodes ranges = length-map ranges (restarted n (boot_in nodes n))
length_moved moves.Nothing nodes ranges = refl
length_moved (moves.TickAll ms) nodes ranges = refl
length_moved (moves.Tick n ms) nodes ranges = refl
length_moved (moves.Stop n) nodes ranges = refl

pub ranges_after : (s : State) (line : ℕ) (event : Event) (move : Move) (nodes : List NodeState) (old new : List RangeValue) → IsTied s → NamesNode (the_setup s) event
    → move ≡ move_of event → nodes ≡ map (moved (move_of event)) s.nodes.items → old ≡ s.ranges.items → length old ≡ s.ranges.len
    → new ≡ moved_ranges move nodes old → All IsSound new → RangesTied (the_setup s) (Ran line event ∷ past s) (with_items s.ranges new).items
ranges_after s line event move nodes old new t names m n r len e sound =
    let same : new ≡ moved_ranges (move_of event) (map (moved (move_of event)) s.nodes.items) s.ranges.items
    = e ∙ ap (λ (x : Move). moved_ranges x nodes old) m ∙ ap (λ (x : List NodeState). moved_ranges (move_of event) x old) n
    ∙ ap (λ (x : List RangeValue). moved_ranges (move_of event) (map (moved (move_of event)) s.nodes.items) x) r in
    let long : length new ≡ s.ranges.len = ap length e ∙ length_moved move nodes old ∙ len in
    let back : (with_items s.ranges new).items ≡ moved_ranges (move_of event) (map (moved (move_of event)) s.nodes.items) s.ranges.items
    = with_items_is s.ranges new long ∙ same in
    subst (λ (x : List RangeValue). RangesTied (the_setup s) (Ran line event ∷ past s) x) (sym back)
    (line_ranges s line event t names (subst (λ (x : List RangeValue). All IsSound x) same sound))
