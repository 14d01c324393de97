-- What holds of the lines that are read. (The limits are this project's profile.)
use Rattle.std.specs.Prelude.{◌≡◌, ℕ, ◌<◌, ◌≤◌, ◌+◌, true, false, List, [], ◌∷◌, ◌++◌, length, All, Contains, IsUtf8, Option, Some, None, Ok}
use Rattle.mr_base.specs.declared.ids.MsgId.{MsgId}
use Rattle.mr_base.specs.declared.ids.NodeId.{NodeId}
use Rattle.mr_base.specs.declared.ids.RangeId.{RangeId}
use Rattle.mr_base.specs.declared.nodes.NodeInfo.{NodeInfo}
use Rattle.mr_base.specs.declared.settings.Settings.{Settings}
use Rattle.mr_base.specs.declared.settings.Kind.{Kind}
use Rattle.mr_base.specs.declared.settings.Kind.TheVariants as kinds
use Rattle.journal.specs.declared.events.Event.{Event}
use Rattle.journal.specs.declared.events.Event.TheVariants as events
use Rattle.scenario.specs.declared.lines.Line.{Line}
use Rattle.scenario.specs.declared.lines.Line.TheVariants as lines
use Rattle.scenario.specs.declared.seen.Seen.{Seen}
use Rattle.scenario.specs.declared.seen_nodes.SeenNode.{SeenNode}
use Rattle.scenario.specs.NamePlaces.{place_of}
use Rattle.scenario.specs.SeenNodes.{clock_limit, find_node}
use Rattle.scenario.specs.Lines.{Told, after_event, counted, reads, with_new_node, with_region}
use Rattle.scenario.specs.Words.{is_name}

-- Durations are at most an hour, in milliseconds.
abbrev pub IsDuration : ℕ → Type 0
IsDuration ms = ms ≤ 3600000

abbrev pub AreSettings : Settings → Type 0
AreSettings s = IsDuration s.max_offset × IsDuration s.lease × IsDuration s.lag × IsDuration s.lead × IsDuration s.expire

abbrev pub IsTime : Kind → Type 0
IsTime kinds.Now = Unit {0}
IsTime (kinds.Ago ms) = IsDuration ms
IsTime (kinds.Within ms any) = IsDuration ms

-- The name of a region or a zone, and that of a transaction. Names are ASCII, so they are texts.
abbrev pub IsPlaceName : List ℕ → Type 0
IsPlaceName name = (is_name 45 name ≡ true) × IsUtf8 name

abbrev pub IsTxnName : List ℕ → Type 0
IsTxnName name = (is_name 95 name ≡ true) × IsUtf8 name

-- A node is there; it runs; it is stopped.
abbrev pub IsThere : List SeenNode → NodeId → Type 0
IsThere nodes n = (node : SeenNode) × (find_node nodes n ≡ Some node)

abbrev pub Runs : List SeenNode → NodeId → Type 0
Runs nodes n = (node : SeenNode) × (find_node nodes n ≡ Some node) × (node.running ≡ true)

abbrev pub IsDown : List SeenNode → NodeId → Type 0
IsDown nodes n = (node : SeenNode) × (find_node nodes n ≡ Some node) × (node.running ≡ false)

-- The clock of the node, or each clock, stays below its limit.
abbrev pub StaysBelow : List SeenNode → Option NodeId → ℕ → Type 0
StaysBelow nodes None ms = All (λ node. node.clock + ms < clock_limit) nodes
StaysBelow nodes (Some n) ms = (node : SeenNode) × (find_node nodes n ≡ Some node) × (node.clock + ms < clock_limit)

abbrev pub IsLive : Told → Option RangeId → Type 0
IsLive told None = Unit {0}
IsLive told (Some r) = Contains told.live r

-- What holds of an event besides that the scenario has begun.
abbrev pub MayHappen : Seen → Told → Event → Type 0
MayHappen seen told events.Begin = Unit {0}
MayHappen seen told (events.Txn txn gateway kind list) = (txn.0 ≡ length seen.names) × Runs seen.nodes gateway × IsTime kind × IsUtf8 list
MayHappen seen told (events.Tick node ms) = IsDuration ms × StaysBelow seen.nodes node ms
MayHappen seen told (events.Deliver id) = Contains told.flight id
MayHappen seen told (events.Apply node range count) = Runs seen.nodes node × Contains told.live range × Contains told.replicas (node, range)
MayHappen seen told events.Drain = Unit {0}
MayHappen seen told (events.Settle ms) = IsDuration ms × StaysBelow seen.nodes None ms
MayHappen seen told (events.LeaseAcquire range node) = Runs seen.nodes node × Contains told.live range
MayHappen seen told (events.LeaseTransfer range node) = Runs seen.nodes node × Contains told.live range
MayHappen seen told (events.LeaseExtend range) = Contains told.live range
MayHappen seen told (events.Close range) = IsLive told range
MayHappen seen told (events.Stop node) = Runs seen.nodes node
MayHappen seen told (events.Start node) = IsDown seen.nodes node
MayHappen seen told (events.ShowRange range) = Contains told.live range
MayHappen seen told (events.ShowNode node) = IsThere seen.nodes node
MayHappen seen told events.ShowFlight = Unit {0}
MayHappen seen told (events.ShowFresh node) = Runs seen.nodes node
MayHappen seen told (events.Sql text) = IsUtf8 text
MayHappen seen told (events.Drop id) = Contains told.flight id
MayHappen seen told (events.Timeout txn) = (txn.0 < length seen.names) × ((id : MsgId) × Contains told.awaited (txn, id))

-- Only `begin` stands before the scenario has begun, and nothing of it where ranges are all that it is read for.
abbrev pub IsOpen : Seen → Event → Type 0
IsOpen seen events.Begin = (seen.zones_only ≡ false) × (seen.begun ≡ false) × (0 < length seen.nodes)
IsOpen seen (events.Sql text) = (seen.begun ≡ true) × (0 < length seen.nodes)
IsOpen seen e = (seen.zones_only ≡ false) × (seen.begun ≡ true)

-- A line stands behind the line of the cluster, and is among the first 200,000 that count.
abbrev pub IsLater : Seen → Type 0
IsLater seen = (0 < seen.counted) × (seen.counted < 200000)

-- The line of the next node stands before every statement. There are at most 64 nodes with it, and its region
-- is no 17th.
pub record IsNextNode (seen : Seen) (info : NodeInfo) (clock : ℕ) : Type 0 where
  pub unstated : seen.stated ≡ false
  pub unbegun : seen.begun ≡ false
  pub next : info.id.0 ≡ length seen.nodes + 1
  pub many : length seen.nodes < 64
  pub few : length seen.regions ≤ 16 → length (with_region seen.regions info.region) ≤ 16
  pub region : IsPlaceName info.region
  pub zone : IsPlaceName info.zone
  pub started : 0 < clock
  pub below : clock < clock_limit

-- What holds of a line that is read.
abbrev pub IsSoundLine : Seen → Told → Line → Type 0
IsSoundLine seen told lines.Skipped = Unit {0}
IsSoundLine seen told (lines.Cluster settings) = (seen.counted ≡ 0) × AreSettings settings
IsSoundLine seen told (lines.Node info clock) = IsLater seen × IsNextNode seen info clock
IsSoundLine seen told (lines.Sql text) = IsLater seen × (seen.begun ≡ false) × (0 < length seen.nodes) × IsUtf8 text
IsSoundLine seen told (lines.Event e) = IsLater seen × IsOpen seen e × MayHappen seen told e

-- What is seen after an event. Only the name of a transaction isn't said by the event itself.
abbrev pub IsAfterEvent : Seen → Event → Seen → Type 0
IsAfterEvent seen (events.Txn txn gateway kind list) seen' =
    (name : List ℕ) × IsTxnName name × (place_of seen.names name ≡ None) × (seen' ≡ counted (record seen { names = seen.names ++ name ∷ [] }))
IsAfterEvent seen e seen' = seen' ≡ counted (after_event seen e)

-- What is seen after a line that is read.
abbrev pub IsAfter : Seen → Line → Seen → Type 0
IsAfter seen lines.Skipped seen' = seen' ≡ seen
IsAfter seen (lines.Cluster settings) seen' = seen' ≡ counted seen
IsAfter seen (lines.Node info clock) seen' = seen' ≡ counted (with_new_node seen info clock)
IsAfter seen (lines.Sql text) seen' = seen' ≡ counted (record seen { stated = true })
IsAfter seen (lines.Event e) seen' = IsAfterEvent seen e seen'

abbrev pub LinesAreSound : Type 0
LinesAreSound = (seen : Seen) (told : Told) (line : List ℕ) (l : Line) (seen' : Seen) → reads seen told line ≡ Ok (l, seen') → IsSoundLine seen told l × IsAfter seen l seen'
