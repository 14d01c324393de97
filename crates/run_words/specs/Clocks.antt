use Rattle.std.specs.Prelude.{ℕ, ◌+◌, ◌≤◌, ◌==◌, max, if◌then◌else◌, List, [], ◌∷◌, map, Option, Some, None}
use Rattle.std.specs.List.{Contains}
use Rattle.std.specs.Option.{option_map_or}
use Rattle.mr_base.specs.declared.ids.NodeId.{NodeId}
use Rattle.mr_base.specs.declared.ids.MsgId.{MsgId}
use Rattle.mr_base.specs.declared.timestamps.Reading.{Reading}
use Rattle.mr_base.specs.declared.timestamps.Ts.{Ts}
use Rattle.journal.specs.declared.entries.JournalEntry.TheVariants as entry
use Rattle.journal.specs.declared.events.Event.TheVariants as events
use Rattle.hlc.specs.Readings.{greater, nothing, reading_of}
use Rattle.run_words.specs.History.{Item, Ran, Ticked, Made, History}
use Rattle.run_words.specs.Messages.{Mail, mail}
use Rattle.run_words.specs.Setup.{Setup, node_of, node_ids}

-- The clocks of the nodes. (Hybrid logical clocks: Taft et al., SIGMOD 2020, in this project's profile.)

abbrev pub phys_after : Item → NodeId → ℕ → ℕ
phys_after (Ran line (events.Tick None ms)) n old = old + ms
phys_after (Ran line (events.Tick (Some m) ms)) n old = if m.0 == n.0 then old + ms else old
phys_after (Ticked ms) n old = old + ms
phys_after _ n old = old

-- The physical clock of a node, in milliseconds. Stops and starts don't change it.
abbrev pub phys : Setup → History → NodeId → ℕ
phys setup [] n = option_map_or (λ node. node.clock) (node_of setup n) 0
phys setup (x ∷ h) n = phys_after x n (phys setup h n)

abbrev pub greatest_wall : List ℕ → ℕ
greatest_wall [] = 0
greatest_wall (wall ∷ walls) = max wall (greatest_wall walls)

-- The greatest physical clock of all nodes.
abbrev pub peak : Setup → History → ℕ
peak setup h = greatest_wall (map (phys setup h) (node_ids setup))

-- Any two clocks differ by at most the offset that is set.
abbrev pub AreWithinOffset : Setup → History → Type 0
AreWithinOffset setup h =
    (n m : NodeId) → Contains (node_ids setup) n → Contains (node_ids setup) m
    → phys setup h n ≤ phys setup h m + setup.settings.max_offset

abbrev pub reading_at : Ts → Reading
reading_at ts = record { wall = ts.wall; logical = ts.logical }

abbrev pub schema_after : Item → Option Ts → Option Ts
schema_after (Made (entry.Schema ts)) old = Some ts
schema_after _ old = old

-- The timestamp of the last schema change.
abbrev pub schema : Setup → History → Option Ts
schema setup [] = setup.schema
schema setup (x ∷ h) = schema_after x (schema setup h)

-- What a clock that starts anew has seen: the last schema change, which every clock takes in.
abbrev pub seen_at_start : Option Ts → Reading
seen_at_start None = nothing
seen_at_start (Some ts) = reading_at ts

-- What a clock has seen once its node takes a message.
abbrev pub seen_with : Option Reading → Reading → Reading
seen_with None old = old
seen_with (Some clock) old = greater old clock

abbrev pub seen_by : Option Mail → NodeId → Reading → Reading
seen_by None n old = old
seen_by (Some sent) n old = if sent.to.0 == n.0 then seen_with sent.clock old else old

abbrev pub seen_after : Item → (MsgId → Option Mail) → Option Ts → NodeId → Reading → Reading
seen_after (Ran line (events.Start m)) mails changed n old = if m.0 == n.0 then seen_at_start changed else old
seen_after (Made (entry.Begin txn attempt gateway start limit)) mails changed n old =
    if gateway.0 == n.0 then greater old (reading_at start) else old
seen_after (Made (entry.Taken m)) mails changed n old = seen_by (mails m) n old
seen_after (Made (entry.Schema ts)) mails changed n old = greater old (reading_at ts)
seen_after _ mails changed n old = old

-- The greatest reading of the starts that a node gave and the clocks that it took in since it started, and of
-- the last schema change: what its clock keeps.
abbrev pub seen : Setup → History → NodeId → Reading
seen setup [] n = option_map_or (λ node. node.seen) (node_of setup n) nothing
seen setup (x ∷ h) n = seen_after x (mail h) (schema setup h) n (seen setup h n)

-- What the clock of a node shows.
abbrev pub reading : Setup → History → NodeId → Reading
reading setup h n = reading_of (phys setup h n) (seen setup h n)
