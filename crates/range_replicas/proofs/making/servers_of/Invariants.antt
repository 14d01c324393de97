use Rattle.std.proofs.Common.{take}
use Rattle.range_replicas.specs.Beginning.{AreServersOf}
use Rattle.range_replicas.proofs.making.servers_of.Given as goal

abbrev pub invariant-loop-place : goal.invariant-loop-place
invariant-loop-place l = AreServersOf (take l.place l.nodes) (take l.place l.boots) l.is_global l.log.entries l.servers.items
