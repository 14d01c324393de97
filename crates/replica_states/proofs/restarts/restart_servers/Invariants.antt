use Rattle.std.proofs.Common.{◌≡◌, ◌++◌, All, take, drop, map}
use Rattle.range_replicas.specs.Sound.{IsSound}
use Rattle.replica_states.specs.Restarts.{restarted}
use Rattle.replica_states.proofs.restarts.restart_servers.Given as goal

abbrev pub invariant-loop-range : goal.invariant-loop-range
invariant-loop-range l = record {
  front : l.ranges ≡ map (restarted l.node l.boot) (take l.range-index l.fn.ranges) ++ drop l.range-index l.fn.ranges;
  sound : All IsSound l.ranges;
}
