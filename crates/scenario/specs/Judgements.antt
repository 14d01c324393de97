-- What is tested of a line whose words fit its form, one fault after the other. (This project's profile.)
use Rattle.std.specs.Prelude.{ℕ, Bool, true, false, not, ◌&&◌, ◌||◌, ◌+◌, ◌==◌, nat_lt, nat_le, if◌then◌else◌, List, length, Option, Some, None, is_some, is_none, bytes_eq}
use Rattle.std.specs.List.{list_any}
use Rattle.mr_base.specs.declared.ids.MsgId.{MsgId}
use Rattle.mr_base.specs.declared.ids.NodeId.{NodeId}
use Rattle.mr_base.specs.declared.ids.RangeId.{RangeId}
use Rattle.mr_base.specs.declared.ids.TxnId.{TxnId}
use Rattle.mr_base.specs.declared.nodes.NodeInfo.{NodeInfo}
use Rattle.mr_base.specs.declared.settings.Settings.{Settings}
use Rattle.mr_base.specs.declared.settings.Kind.{Kind}
use Rattle.mr_base.specs.declared.settings.Kind.TheVariants as kinds
use Rattle.journal.specs.declared.events.Event.{Event}
use Rattle.journal.specs.declared.events.Event.TheVariants as events
use Rattle.scenario.specs.declared.forms.Form.{Form}
use Rattle.scenario.specs.declared.forms.Form.TheVariants as forms
use Rattle.scenario.specs.declared.seen.Seen.{Seen}
use Rattle.scenario.specs.declared.seen_nodes.SeenNode.{SeenNode}
use Rattle.scenario.specs.NamePlaces.{place_of}
use Rattle.scenario.specs.SeenNodes.{clock_limit, clocks_pass, find_node}
use Rattle.scenario.specs.Words.{no_id}

-- ---- S3: a number is out of its range, a node's number isn't the next one, a clock would reach 2^53, or
-- there would be a 65th node or a 17th region. (64 zones in a region aren't passed by 64 nodes.)

-- Durations are at most an hour, in milliseconds.
abbrev pub is_long : ℕ → Bool
is_long ms = nat_lt 3600000 ms

abbrev pub has_long : Settings → Bool
has_long s = is_long s.max_offset || is_long s.lease || is_long s.lag || is_long s.lead || is_long s.expire

abbrev pub is_long_kind : Kind → Bool
is_long_kind kinds.Now = false
is_long_kind (kinds.Ago ms) = is_long ms
is_long_kind (kinds.Within ms any) = is_long ms

abbrev pub has_region : List (List ℕ) → List ℕ → Bool
has_region regions region = list_any (bytes_eq region) regions

abbrev pub is_wrong_node : Seen → NodeInfo → ℕ → Bool
is_wrong_node seen info clock = nat_le 64 (length seen.nodes) || not (info.id.0 == length seen.nodes + 1)
    || (nat_le 16 (length seen.regions) && not (has_region seen.regions info.region))
    || clock == 0 || nat_le clock_limit clock

-- The clocks that an event moves, of one node or of all, and by how much.
abbrev pub tick_in : Event → Option (Option NodeId × ℕ)
tick_in (events.Tick node ms) = Some (node, ms)
tick_in (events.Settle ms) = Some (None, ms)
tick_in _ = None

abbrev pub is_wrong_tick : List SeenNode → Option (Option NodeId × ℕ) → Bool
is_wrong_tick nodes None = false
is_wrong_tick nodes (Some tick) = is_long tick.1 || clocks_pass nodes tick.0 tick.1

unfoldable pub is_out_of_range : Seen → Form → Bool
is_out_of_range seen (forms.Cluster settings) = has_long settings
is_out_of_range seen (forms.Node info clock) = is_wrong_node seen info clock
is_out_of_range seen (forms.Sql text) = false
is_out_of_range seen (forms.Txn name gateway kind list) = is_long_kind kind
is_out_of_range seen (forms.Timeout name) = false
is_out_of_range seen (forms.Event e) = is_wrong_tick seen.nodes (tick_in e)

-- ---- S5: the first line that counts is no `cluster` line, or a second one stands.

abbrev pub is_cluster : Form → Bool
is_cluster (forms.Cluster settings) = true
is_cluster _ = false

unfoldable pub begins_wrongly : Seen → Form → Bool
begins_wrongly seen f = if is_cluster f then nat_lt 0 seen.counted else seen.counted == 0

-- ---- S6: a `node` line stands after a statement or after `begin`; a statement or `begin` stands where no
-- node is there; a second `begin` stands; any later line stands before `begin`; or `begin` or a later line
-- stands where ranges are all that the scenario is read for.

abbrev pub is_begin : Event → Bool
is_begin events.Begin = true
is_begin _ = false

unfoldable pub is_out_of_order : Seen → Form → Bool
is_out_of_order seen (forms.Cluster settings) = false
is_out_of_order seen (forms.Node info clock) = seen.stated || seen.begun
is_out_of_order seen (forms.Sql text) = length seen.nodes == 0
is_out_of_order seen (forms.Txn name gateway kind list) = seen.zones_only || not seen.begun
is_out_of_order seen (forms.Timeout name) = seen.zones_only || not seen.begun
is_out_of_order seen (forms.Event e) =
    seen.zones_only || (if is_begin e then seen.begun || length seen.nodes == 0 else not seen.begun)

-- ---- S4: a node or range named isn't there. A retired range isn't.

abbrev pub node_in : Event → Option NodeId
node_in (events.Tick node ms) = node
node_in (events.Apply node range count) = Some node
node_in (events.LeaseAcquire range node) = Some node
node_in (events.LeaseTransfer range node) = Some node
node_in (events.Stop node) = Some node
node_in (events.Start node) = Some node
node_in (events.ShowNode node) = Some node
node_in (events.ShowFresh node) = Some node
node_in _ = None

abbrev pub range_in : Event → Option RangeId
range_in (events.Apply node range count) = Some range
range_in (events.LeaseAcquire range node) = Some range
range_in (events.LeaseTransfer range node) = Some range
range_in (events.LeaseExtend range) = Some range
range_in (events.Close range) = range
range_in (events.ShowRange range) = Some range
range_in _ = None

abbrev pub misses_node : List SeenNode → Option NodeId → Bool
misses_node nodes None = false
misses_node nodes (Some n) = is_none (find_node nodes n)

abbrev pub is_range : RangeId → RangeId → Bool
is_range r s = r.0 == s.0

abbrev pub misses_range : List RangeId → Option RangeId → Bool
misses_range live None = false
misses_range live (Some r) = r.0 == no_id || not (list_any (is_range r) live)

unfoldable pub names_nothing : Seen → List RangeId → Form → Bool
names_nothing seen live (forms.Txn name gateway kind list) = misses_node seen.nodes (Some gateway)
names_nothing seen live (forms.Event e) = misses_node seen.nodes (node_in e) || misses_range live (range_in e)
names_nothing seen live _ = false

-- ---- S7: the name of the transaction was used.

unfoldable pub repeats_a_name : Seen → Form → Bool
repeats_a_name seen (forms.Txn name gateway kind list) = is_some (place_of seen.names name)
repeats_a_name seen _ = false

-- ---- S8: the message isn't in flight.

abbrev pub is_message : MsgId → MsgId → Bool
is_message m n = m.0 == n.0

abbrev pub event_misses_message : List MsgId → Event → Bool
event_misses_message flight (events.Deliver id) = not (list_any (is_message id) flight)
event_misses_message flight (events.Drop id) = not (list_any (is_message id) flight)
event_misses_message flight _ = false

unfoldable pub misses_message : List MsgId → Form → Bool
misses_message flight (forms.Event e) = event_misses_message flight e
misses_message flight _ = false

-- ---- S9: a node that has to run is stopped, a node runs at `start`, or it holds no replica of the range
-- at `apply`.

abbrev pub is_stopped_node : Option SeenNode → Bool
is_stopped_node None = false
is_stopped_node (Some node) = not node.running

abbrev pub is_running_node : Option SeenNode → Bool
is_running_node None = false
is_running_node (Some node) = node.running

abbrev pub is_stopped : List SeenNode → NodeId → Bool
is_stopped nodes n = is_stopped_node (find_node nodes n)

abbrev pub is_running : List SeenNode → NodeId → Bool
is_running nodes n = is_running_node (find_node nodes n)

abbrev pub is_replica : NodeId × RangeId → NodeId × RangeId → Bool
is_replica p q = p.0.0 == q.0.0 && p.1.0 == q.1.0

abbrev pub lacks_replica : List (NodeId × RangeId) → NodeId → RangeId → Bool
lacks_replica replicas n r = not (list_any (is_replica (n, r)) replicas)

abbrev pub event_meets_state : List SeenNode → List (NodeId × RangeId) → Event → Bool
event_meets_state nodes replicas (events.Apply node range count) = is_stopped nodes node || lacks_replica replicas node range
event_meets_state nodes replicas (events.Stop node) = is_stopped nodes node
event_meets_state nodes replicas (events.LeaseAcquire range node) = is_stopped nodes node
event_meets_state nodes replicas (events.LeaseTransfer range node) = is_stopped nodes node
event_meets_state nodes replicas (events.ShowFresh node) = is_stopped nodes node
event_meets_state nodes replicas (events.Start node) = is_running nodes node
event_meets_state nodes replicas _ = false

unfoldable pub meets_wrong_state : Seen → List (NodeId × RangeId) → Form → Bool
meets_wrong_state seen replicas (forms.Txn name gateway kind list) = is_stopped seen.nodes gateway
meets_wrong_state seen replicas (forms.Event e) = event_meets_state seen.nodes replicas e
meets_wrong_state seen replicas _ = false

-- ---- S12: the transaction waits for no request, or there is none of that name.

abbrev pub waits : ℕ → TxnId × MsgId → Bool
waits txn wait = txn == wait.0.0

abbrev pub waits_not : List (TxnId × MsgId) → Option ℕ → Bool
waits_not awaited None = true
waits_not awaited (Some txn) = not (list_any (waits txn) awaited)

unfoldable pub awaits_nothing : Seen → List (TxnId × MsgId) → Form → Bool
awaits_nothing seen awaited (forms.Timeout name) = waits_not awaited (place_of seen.names name)
awaits_nothing seen awaited _ = false
