use Rattle.std.proofs.Common.{◌∙◌, ap, find, not}
use Rattle.closed_ts.specs.Routing.{is_member, is_node}
use Rattle.mr_base.specs.declared.ids.NodeId.{NodeId}
use Rattle.request_routes.proofs.Finding.{find_among}
use Rattle.request_routes.proofs.Routing.{own_goes_first}
use Rattle.request_routes.proofs.routes.Policy.first_own.Goals as goal

pub returns-in_default : goal.returns-in_default
returns-in_default c =
    let p = λ (node : NodeId). not (is_member c.args.asked node) in
    c.first_of_node.ensures ∙ find_among p (is_node c.args.gateway) c.args.replicas.now
    ∙ ap (find p) (own_goes_first c.args.self c.args.gateway c.args.replicas.now c.in_default.not-Leaseholder)
