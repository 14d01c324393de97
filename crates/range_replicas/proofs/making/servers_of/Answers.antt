use Rattle.std.proofs.Common.{List, take, ◌+◌, sym, subst}
use Rattle.range_replicas.proofs.PlaceLemmas.{one_server}
use Rattle.range_replicas.specs.Beginning.{AreServersOf}
use Rattle.range_server.specs.declared.standing.Standing.{Standing}
use Rattle.range_replicas.proofs.making.servers_of.Goals as goal

pub loop-place-preserved : goal.loop-place-preserved
loop-place-preserved c =
    subst (λ (x : List Standing). AreServersOf (take (c.loop-place.place + 1) c.args.nodes.now) (take (c.loop-place.place + 1) c.args.boots.now) c.args.is_global
    c.args.log.now.entries x)
    (sym c.in_ok-push.ensures.items)
    (one_server c.args.nodes.now c.args.boots.now c.args.is_global c.args.log.now.entries c.loop-place.servers.items c.loop-place.place
    _ _ c.in_ok-server.server c.loop-place-test.true
    c.requires c.loop-place.invariant c.in_ok-server.ensures)
