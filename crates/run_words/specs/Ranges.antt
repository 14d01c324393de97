use Rattle.std.specs.Prelude.{◌≡◌, ◌*◌, ◌<◌, ◌==◌, Bool, IsTrue, false, List, [], ◌++◌, length, Option}
use Rattle.std.specs.List.{filter, find, Contains}
use Rattle.std.specs.Option.{option_map_or}
use Rattle.mr_base.specs.declared.ids.NodeId.{NodeId}
use Rattle.mr_base.specs.declared.ids.RangeId.{RangeId}
use Rattle.row_locality.specs.Plain.{Layout}
use Rattle.run_words.specs.History.{History}
use Rattle.run_words.specs.Logs.{applied, log_of}
use Rattle.run_words.specs.Nodes.{is_running}
use Rattle.run_words.specs.Setup.{RangeSetup, Setup}

-- The catalog and the ranges in force, and their replicas.

-- The ranges, in the order of their numbers: today those with which the history begins. (This project's profile.)
abbrev pub ranges : Setup → History → List RangeSetup
ranges setup h = setup.ranges

-- The catalog in force, with the numbers of its tables' ranges.
abbrev pub layout_of : Setup → History → Layout
layout_of setup h = setup.layout

abbrev pub has_number : RangeId → RangeSetup → Bool
has_number j range = range.number.0 == j.0

-- The range of a number, where it is in force.
abbrev pub range_of : Setup → History → RangeId → Option RangeSetup
range_of setup h j = find (has_number j) (ranges setup h)

abbrev pub voters_of : Setup → History → RangeId → List NodeId
voters_of setup h j = option_map_or (λ range. range.voters) (range_of setup h j) []

-- The replicas of a range, those that vote first.
abbrev pub replicas_of : Setup → History → RangeId → List NodeId
replicas_of setup h j = option_map_or (λ range. range.voters ++ range.others) (range_of setup h j) []

-- A range is of a GLOBAL table.
abbrev pub is_global : Setup → History → RangeId → Bool
is_global setup h j = option_map_or (λ range. range.is_global) (range_of setup h j) false

-- A node holds a replica of a range. (CockroachDB's documentation of replicas.)
abbrev pub HoldsReplica : Setup → History → NodeId → RangeId → Type 0
HoldsReplica setup h n j = Contains (replicas_of setup h j) n

-- More than half of the voters of a range run. (Taft et al., SIGMOD 2020, on replication.)
abbrev pub HasQuorum : Setup → History → RangeId → Type 0
HasQuorum setup h j = length (voters_of setup h j) < 2 * length (filter (is_running setup h) (voters_of setup h j))

-- Every replica of a node that runs has applied all of its log. (This project's profile.)
abbrev pub IsAllApplied : Setup → History → Type 0
IsAllApplied setup h =
    (n : NodeId) (j : RangeId) → IsTrue (is_running setup h n) → HoldsReplica setup h n j
    → applied setup h n j ≡ length (log_of setup h j)
