use Rattle.std.specs.Prelude.{ℕ, ◌==◌, Bool, List, map, Option}
use Rattle.std.specs.List.{find}
use Rattle.mr_base.specs.declared.ids.NodeId.{NodeId}
use Rattle.mr_base.specs.declared.nodes.NodeInfo.{NodeInfo}
use Rattle.mr_base.specs.declared.ids.RangeId.{RangeId}
use Rattle.mr_base.specs.declared.settings.Settings.{Settings}
use Rattle.mr_base.specs.declared.timestamps.Reading.{Reading}
use Rattle.mr_base.specs.declared.timestamps.Ts.{Ts}
use Rattle.range_log.specs.declared.entries.Entry.{Entry}
use Rattle.row_locality.specs.Plain.{Layout, PlainDatabase}

-- What a history begins with. A whole run begins with nodes that run and with ranges that have no entries yet; the
-- part of a run behind a schema change, where no transaction is open and nothing is in flight, begins with what
-- stood there. (This project's profile.)

-- A node, and what is so at first: what its physical clock shows, in milliseconds, what its clock has seen, its
-- boot, and whether it runs.
pub record NodeSetup : Type 0 where
  pub info : NodeInfo
  pub clock : ℕ
  pub seen : Reading
  pub boot : ℕ
  pub runs : Bool

-- A range: its number, its replicas, those that vote first, and whether it is of a GLOBAL table. (CockroachDB's
-- documentation of replicas and of table localities.)
pub record RangeSetup : Type 0 where
  pub number : RangeId
  pub voters : List NodeId
  pub others : List NodeId
  pub is_global : Bool

-- The settings; the nodes; the catalog with the numbers of its tables' ranges; these ranges, by their numbers; the
-- entries with which each begins, the newest first, and the rows whose pairs they load; the last schema change; and
-- how many attempts were begun and messages sent before. In a whole run these last are none, as `begin` appends the
-- first leases.
pub record Setup : Type 0 where
  pub settings : Settings
  pub nodes : List NodeSetup
  pub layout : Layout
  pub ranges : List RangeSetup
  pub beginning : RangeId → List Entry
  pub rows : PlainDatabase
  pub schema : Option Ts
  pub attempts : ℕ
  pub messages : ℕ

abbrev pub has_id : NodeId → NodeSetup → Bool
has_id n node = node.info.id.0 == n.0

abbrev pub node_of : Setup → NodeId → Option NodeSetup
node_of setup n = find (has_id n) setup.nodes

abbrev pub node_ids : Setup → List NodeId
node_ids setup = map (λ node. node.info.id) setup.nodes
