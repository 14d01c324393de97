use Rattle.std.proofs.Common.{arith}
use Rattle.std.proofs.lemmas.List.Elements.{All-set}
use Rattle.node_states.proofs.FrontLemmas.{front_grows}
use Rattle.range_replicas.specs.Sound.{IsSound}
use Rattle.replica_states.specs.Restarts.{restarted}
use Rattle.replica_states.proofs.restarts.restart_servers.Goals as goal

pub loop-range-preserved : goal.loop-range-preserved
loop-range-preserved c = record {
  front = front_grows (restarted c.args.node c.args.boot) c.args.ranges.now c.loop-range.ranges c.loop-range.range-index _ c.restart_server.new.range
      (omega arith) c.loop-range.invariant.front c.restart_server.ensures.servers;
  sound = All-set IsSound c.loop-range.ranges c.loop-range.range-index c.restart_server.new.range c.restart_server.ensures.sound c.loop-range.invariant.sound;
}
