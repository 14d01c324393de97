use Rattle.std.proofs.Common.{◌↔◌, IsTrue, take}
use Rattle.std.specs.List.{list_any}
use Rattle.mr_base.specs.Nodes.{IsMember, IsNode}
use Rattle.mr_base.specs.declared.ids.NodeId.{NodeId}
use Rattle.request_routes.specs.Routes.{stands_in}
use Rattle.request_routes.proofs.routes.nodes_of_region.Given as goal

abbrev pub invariant-loop-node : goal.invariant-loop-node
invariant-loop-node l =
    (n : NodeId) → IsNode n → (IsMember l.found n ↔ IsTrue (list_any (stands_in l.region n) (take l.node-index l.nodes)))
