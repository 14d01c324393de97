use Rattle.std.proofs.Common.{◌∙◌, ap, find, not, sym}
use Rattle.closed_ts.specs.Routing.{is_member, is_node}
use Rattle.mr_base.specs.declared.ids.NodeId.{NodeId}
use Rattle.request_routes.specs.Routes.{named_first}
use Rattle.request_routes.proofs.Finding.{find_among}
use Rattle.request_routes.proofs.routes.Policy.first_named.Goals as goal

pub returns-in-Some : goal.returns-in-Some
returns-in-Some c =
    let p = λ (node : NodeId). not (is_member c.args.progress.asked node) in
    c.first_of_node.ensures ∙ find_among p (is_node c.in-Some.named) c.args.replicas.now
    ∙ ap (λ named. find p (named_first named c.args.replicas.now)) (sym c.in-Some.is)
