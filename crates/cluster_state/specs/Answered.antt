use Rattle.std.specs.Prelude.{Option, ℕ, ◌++◌, ◌<◌, ◌≡◌, length}
use Rattle.mr_base.specs.declared.ids.NodeId.{NodeId}
use Rattle.mr_base.specs.declared.messages.Request.{Request}
use Rattle.node_states.specs.Appends.{appends}
use Rattle.range_replicas.specs.RangeValue.{IsChangedAt, RangeValue, added_in, scene_at, server_at}
use Rattle.range_replicas.specs.Sound.{IsSound}
use Rattle.range_rules.specs.Added.{AreLicensed}
use Rattle.range_server.specs.Applying.{applied_past}
use Rattle.range_server.specs.Handling.{IsAnswer, Licenses}
use Rattle.range_server.specs.Refusals.{IsByHolder}
use Rattle.range_server.specs.declared.reads.Right.{Right}
use Rattle.range_server.specs.declared.standing.Moment.{Moment}
use Rattle.run_ledger.specs.LedgerValue.{made_all}
use Rattle.cluster_state.specs.Handled.{serve_of}
use Rattle.cluster_state.specs.declared.serving.Answered.{Answered}

-- What a range's server at a node did with a request. No public clause cites this.
pub record IsAnswered (node : NodeId) (now : Moment) (q : Request) (old new : RangeValue) (answered : Answered) : Type 0 where
  pub place : ℕ
  pub inside : place < length old.servers
  pub node_is : (server_at place old).node ≡ node
  pub by : Option Right
  pub grown : new.log.entries ≡ added_in old new ++ old.log.entries
  pub answer : IsAnswer (scene_at place old now) q answered.reply by new.log.entries (added_in old new)
  pub licensed : AreLicensed (Licenses (scene_at place old now) q) (added_in old new) old.log.entries
  pub holder : IsByHolder (scene_at place old now) (added_in old new)
  pub applied_is : (server_at place new).replica.applied
      ≡ applied_past (added_in old new) (server_at place old).replica.applied new.log.entries
  pub server_is : server_at place new ≡ record (server_at place old) { replica = (server_at place new).replica; cache = (server_at place new).cache }
  pub changed : IsChangedAt place old new
  pub sound : IsSound new
  pub entries_are : made_all answered.entries.items
      ≡ serve_of node (server_at place old).replica.applied q answered.reply by
      ++ appends old.number (length old.log.entries) (added_in old new)
