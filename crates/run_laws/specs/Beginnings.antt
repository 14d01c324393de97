use Rattle.std.specs.Prelude.{All, AllPairs, IsSome, None, Option, Some, [], map, reverse, true, ℕ, ◌++◌, ◌<◌, ◌∷◌, ◌≡◌, ◌≢◌, ◌≤◌}
use Rattle.descriptors.specs.Sound.{AreDistinct}
use Rattle.hlc.specs.Readings.{nothing}
use Rattle.mr_base.specs.declared.ids.RangeId.{RangeId}
use Rattle.mr_base.specs.declared.timestamps.Ts.{Ts}
use Rattle.range_log.specs.declared.entries.Entry.TheVariants as log
use Rattle.range_log.specs.declared.entries.Entry.{Entry}
use Rattle.range_log.specs.declared.entries.Lease.{Lease}
use Rattle.row_locality.specs.Pairs.{KeyValue}
use Rattle.row_locality.specs.Plain.{IsSoundLayout, IsValid, range_pairs}
use Rattle.run_words.specs.Clocks.{peak}
use Rattle.run_words.specs.Nodes.{boot}
use Rattle.run_words.specs.Ranges.{range_of}
use Rattle.run_words.specs.Setup.{NodeSetup, Setup}

-- With what a history may begin so that the laws on all lawful histories hold: in a whole run with nothing; behind a
-- schema change with the rows that it left, all at its timestamp. (This project's profile.)

abbrev pub load_of : Ts → KeyValue → Entry
load_of ts p = log.Load ts p.0 p.1

-- A range begins without entries, and no rows; or with its first lease, from the schema change on, at the boot of its
-- holder, and then its pairs in the order of their keys.
abbrev pub BeginsWith : Setup → RangeId → Option Ts → Type 0
BeginsWith setup j None = setup.beginning j ≡ []
BeginsWith setup j (Some changed) =
    (lease : Lease) × (lease.seq ≡ 1) × (lease.low ≡ changed) × (lease.boot ≡ boot setup [] lease.holder)
    × (setup.beginning j ≡ reverse (map (load_of changed) (range_pairs setup.layout setup.rows j)) ++ log.Lease lease ∷ [])

-- Without a schema change there are no rows yet. No attempt owns the timestamp of one, and its wall is behind some
-- clock.
abbrev pub AreRowsAt : Setup → Option Ts → Type 0
AreRowsAt setup None = (place : ℕ) → setup.rows place ≡ []
AreRowsAt setup (Some changed) = (changed.owner ≡ 0) × (changed.wall ≤ peak setup [])

-- The nodes have numbers of their own, and no clock has seen more than some clock shows.
pub record AreNodesAtFirst (setup : Setup) : Type 0 where
  pub apart : AllPairs (λ a b. a.info.id ≢ b.info.id) setup.nodes
  pub seen : All (λ node. node.seen.wall ≤ peak setup []) setup.nodes

pub record IsSoundSetup (setup : Setup) : Type 0 where
  pub nodes : AreNodesAtFirst setup
  pub layout : IsSoundLayout setup.layout
  pub rows : IsValid setup.layout.catalog setup.rows
  pub apart : AllPairs (λ a b. a.number.0 < b.number.0) setup.ranges
  pub replicas : All (λ range. AreDistinct (range.voters ++ range.others)) setup.ranges
  pub at : AreRowsAt setup setup.schema
  pub begins : (j : RangeId) → IsSome (range_of setup [] j) → BeginsWith setup j setup.schema
  pub others : (j : RangeId) → range_of setup [] j ≡ None → setup.beginning j ≡ []

-- A node of a whole run: it runs, at its first boot, and its clock has seen nothing.
pub record IsFreshNode (node : NodeSetup) : Type 0 where
  pub running : node.runs ≡ true
  pub boot_is : node.boot ≡ 1
  pub seen_is : node.seen ≡ nothing

-- A whole run begins with such nodes, and with no entries, rows, schema changes, attempts or messages.
pub record IsFreshSetup (setup : Setup) : Type 0 where
  pub nodes : All IsFreshNode setup.nodes
  pub entries : (j : RangeId) → setup.beginning j ≡ []
  pub rows : (place : ℕ) → setup.rows place ≡ []
  pub unchanged : setup.schema ≡ None
  pub attempts_are : setup.attempts ≡ 0
  pub messages_are : setup.messages ≡ 0
