-- How the lines of a scenario are read. (This project's profile.)
use Rattle.std.specs.Prelude.{ℕ, ◌<◌, ◌+◌, ◌==◌, Bool, true, false, nat_lt, nat_le, if◌then◌else◌, List, [], ◌∷◌, ◌++◌, length, Option, Some, None, Result, Ok, Err, ok_or, unwrap_or}
use Rattle.mr_base.specs.declared.ids.MsgId.{MsgId}
use Rattle.mr_base.specs.declared.ids.NodeId.{NodeId}
use Rattle.mr_base.specs.declared.ids.RangeId.{RangeId}
use Rattle.mr_base.specs.declared.ids.TxnId.{TxnId}
use Rattle.mr_base.specs.declared.nodes.NodeInfo.{NodeInfo}
use Rattle.journal.specs.declared.events.Event.{Event}
use Rattle.journal.specs.declared.events.Event.TheVariants as events
use Rattle.scenario.specs.declared.forms.Form.{Form}
use Rattle.scenario.specs.declared.forms.Form.TheVariants as forms
use Rattle.scenario.specs.declared.forms.LineName.{LineName}
use Rattle.scenario.specs.declared.lines.Line.{Line}
use Rattle.scenario.specs.declared.lines.Line.TheVariants as lines
use Rattle.scenario.specs.declared.seen.Seen.{Seen}
use Rattle.scenario.specs.declared.seen_nodes.SeenNode.{SeenNode}
use Rattle.scenario.specs.Forms.{form_of}
use Rattle.scenario.specs.LineNames.{line_name}
use Rattle.scenario.specs.Judgements.{awaits_nothing, begins_wrongly, has_region, is_out_of_order, is_out_of_range, meets_wrong_state, misses_message, names_nothing, repeats_a_name, tick_in}
use Rattle.scenario.specs.NamePlaces.{place_of}
use Rattle.scenario.specs.SeenNodes.{restarted, ticked_by, with_node}
use Rattle.scenario.specs.Words.{first_word}

-- What a world tells: the messages in flight, the live ranges, the replicas that nodes hold, and the
-- requests that transactions wait for.
pub record Told : Type 0 where
  pub flight : List MsgId
  pub live : List RangeId
  pub replicas : List (NodeId × RangeId)
  pub awaited : List (TxnId × MsgId)

abbrev pub told_by : List MsgId → List RangeId → List (NodeId × RangeId) → List (TxnId × MsgId) → Told
told_by flight live replicas awaited = record { flight = flight; live = live; replicas = replicas; awaited = awaited }

-- What is seen before the first line.
abbrev pub nothing_seen : Bool → Seen
nothing_seen zones_only = record { zones_only = zones_only; counted = 0; stated = false; begun = false; regions = []; nodes = []; names = [] }

-- The faults of a line whose words fit its form. The first one that applies is answered.
unfoldable pub fault_of : Seen → Told → Form → Option ℕ
fault_of seen told f =
    if is_out_of_range seen f then Some 3
    else if begins_wrongly seen f then Some 5
    else if is_out_of_order seen f then Some 6
    else if names_nothing seen told.live f then Some 4
    else if repeats_a_name seen f then Some 7
    else if misses_message told.flight f then Some 8
    else if meets_wrong_state seen told.replicas f then Some 9
    else if awaits_nothing seen told.awaited f then Some 12
    else None

abbrev pub named_form : List ℕ → Option LineName → Result Form ℕ
named_form line None = Err 1
named_form line (Some name) = ok_or (form_of name line) 2

-- What a line that isn't skipped says: at most 200,000 lines count, the first word names the line, and the
-- other words fit its form.
unfoldable pub said : Seen → List ℕ → Result Form ℕ
said seen line = if nat_le 200000 seen.counted then Err 11 else named_form line (line_name (first_word line))

-- ---- what is seen after a line

abbrev pub with_region : List (List ℕ) → List ℕ → List (List ℕ)
with_region regions region = if has_region regions region then regions else regions ++ region ∷ []

abbrev pub with_new_node : Seen → NodeInfo → ℕ → Seen
with_new_node seen info clock =
    record seen { nodes = seen.nodes ++ record { clock = clock; running = true } ∷ []; regions = with_region seen.regions info.region }

abbrev pub moved : List SeenNode → Option (Option NodeId × ℕ) → List SeenNode
moved nodes None = nodes
moved nodes (Some tick) = ticked_by nodes tick.0 tick.1

abbrev pub after_event : Seen → Event → Seen
after_event seen events.Begin = record seen { begun = true }
after_event seen (events.Stop node) = record seen { nodes = with_node (restarted false) seen.nodes node }
after_event seen (events.Start node) = record seen { nodes = with_node (restarted true) seen.nodes node }
after_event seen e = record seen { nodes = moved seen.nodes (tick_in e) }

unfoldable pub after_form : Seen → Form → Seen
after_form seen (forms.Cluster settings) = seen
after_form seen (forms.Node info clock) = with_new_node seen info clock
after_form seen (forms.Sql text) = if seen.begun then seen else record seen { stated = true }
after_form seen (forms.Txn name gateway kind list) = record seen { names = seen.names ++ name ∷ [] }
after_form seen (forms.Timeout name) = seen
after_form seen (forms.Event e) = after_event seen e

abbrev pub counted : Seen → Seen
counted seen = record seen { counted = seen.counted + 1 }

-- ---- the line as it is answered

-- A transaction has the place of its name as its number. A statement after `begin` is an event.
unfoldable pub line_of : Seen → Form → Line
line_of seen (forms.Cluster settings) = lines.Cluster settings
line_of seen (forms.Node info clock) = lines.Node info clock
line_of seen (forms.Sql text) = if seen.begun then lines.Event (events.Sql text) else lines.Sql text
line_of seen (forms.Txn name gateway kind list) = lines.Event (events.Txn (record { 0 = length seen.names }) gateway kind list)
line_of seen (forms.Timeout name) = lines.Event (events.Timeout (record { 0 = unwrap_or (place_of seen.names name) 0 }))
line_of seen (forms.Event e) = lines.Event e

-- An empty line or a comment is skipped.
abbrev pub is_skipped : List ℕ → Bool
is_skipped [] = true
is_skipped (b ∷ line) = b == 35

abbrev pub unless_fault : Seen → Form → Option ℕ → Result (Line × Seen) ℕ
unless_fault seen f (Some k) = Err k
unless_fault seen f None = Ok (line_of seen f, counted (after_form seen f))

abbrev pub read_form : Seen → Told → Result Form ℕ → Result (Line × Seen) ℕ
read_form seen told (Err k) = Err k
read_form seen told (Ok f) = unless_fault seen f (fault_of seen told f)

-- How a line is read after those seen so far: the line and what is seen then, or the number of its fault.
-- A line has at most 4,096 bytes without its end.
unfoldable pub reads : Seen → Told → List ℕ → Result (Line × Seen) ℕ
reads seen told line =
    if nat_lt 4096 (length line) then Err 10
    else if is_skipped line then Ok (lines.Skipped, seen)
    else read_form seen told (said seen line)

-- The line of this transaction was read.
abbrev pub IsRead : Seen → TxnId → Type 0
IsRead seen t = t.0 < length seen.names
