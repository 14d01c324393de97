use Rattle.std.specs.Prelude.{◌≡◌, ◌++◌, ◌==◌, ℕ, Bool, false, List, [], None, slice_index_or, slice_set}
use Rattle.mr_base.specs.declared.ids.NodeId.{NodeId}
use Rattle.mr_base.specs.declared.ids.RangeId.{RangeId}
use Rattle.closed_ts.specs.Targets.{at_wall}
use Rattle.range_log.specs.LogValue.{LogValue}
use Rattle.range_log.specs.declared.entries.Entry.{Entry}
use Rattle.range_rules.specs.Added.{added_to}
use Rattle.range_server.specs.Scene.{Scene, scene}
use Rattle.range_server.specs.Seen.{nothing_above}
use Rattle.range_server.specs.declared.standing.Moment.{Moment}
use Rattle.range_server.specs.declared.standing.Standing.{Standing}

-- A range as contracts see it: its number, the nodes of its replicas, those that vote first, whether it is of a
-- GLOBAL table, its log, and the server of each replica in the same order. (Replicas: CockroachDB's documentation;
-- replication by a log: Taft et al., SIGMOD 2020.)
pub record RangeValue : Type 0 where
  pub number : RangeId
  pub voters : List NodeId
  pub others : List NodeId
  pub is_global : Bool
  pub log : LogValue
  pub servers : List Standing

-- The nodes of its replicas.
abbrev pub replicas : RangeValue → List NodeId
replicas r = r.voters ++ r.others

-- The server of no replica.
abbrev pub nobody : Standing
nobody =
    record {
      node = record { 0 = 0 };
      boot = 0;
      is_global = false;
      replica = record { keys = []; states = []; lease = None; closed = at_wall 0; applied = 0 };
      cache = nothing_above (at_wall 0);
    }

-- The server of the replica at a place, from 0.
abbrev pub server_at : ℕ → RangeValue → Standing
server_at place r = slice_index_or r.servers place nobody

-- A server is at a node, as a test.
abbrev pub is_at : NodeId → Standing → Bool
is_at node s = s.node.0 == node.0

-- What it finds where it is asked.
abbrev pub scene_at : ℕ → RangeValue → Moment → Scene
scene_at place r now = scene (server_at place r) r.log now

-- The entries that a range's log grew by.
abbrev pub added_in : (old new : RangeValue) → List Entry
added_in old new = added_to old.log.entries new.log.entries

-- Nothing of a range has changed but the server at a place and the log.
abbrev pub IsChangedAt : ℕ → (old new : RangeValue) → Type 0
IsChangedAt place old new = new ≡ record old { log = new.log; servers = slice_set old.servers place (server_at place new) }
