-- The three searches in turn are one search along the route.
use Rattle.std.proofs.Common.{◌≡◌, ◌∙◌, Contains, IfSome, not, refl, true, sym, subst}
use Rattle.std.proofs.lemmas.Option.{IfSome_then}
use Rattle.closed_ts.specs.Routing.{asking_order, is_member}
use Rattle.mr_base.specs.declared.ids.NodeId.{NodeId}
use Rattle.request_routes.specs.Routes.{named_first, own_first, preferred}
use Rattle.request_routes.proofs.Finding.{find_in_turn, found, is_none, none_of_list, or_none}
use Rattle.request_routes.proofs.Routing.{none_named, none_own, not_member, route_is_of_replicas}
use Rattle.request_routes.proofs.routes.Policy.next_replica.Goals as goal

pub returns-clause-order : goal.returns-clause-order
returns-clause-order c =
    let named = named_first c.args.progress.named c.args.replicas.now in
    let own = own_first c.args.self c.args.gateway c.args.replicas.now in
    let others = asking_order c.args.replicas.now (preferred c.args.self c.args.near) c.args.hint in
    rw (c.or-2.ensures, c.or.ensures, c.first_named.ensures, c.first_own.ensures, c.next_target.ensures.order, c.preferred.ensures)
    (find_in_turn (λ node. not (is_member c.args.progress.asked node)) named own others)

-- what is found on the route is a replica, and wasn't asked
first_is_free : (c : goal.After-or-2) → IfSome c.or-2.result (λ n. Contains c.args.replicas.now n × (not (is_member c.args.progress.asked n) ≡ true))
first_is_free c =
    let on_route = route_is_of_replicas c.args.self c.args.gateway c.args.near c.args.hint c.args.progress.named c.args.replicas.now in
    subst (λ r. IfSome r (λ n. Contains c.args.replicas.now n × (not (is_member c.args.progress.asked n) ≡ true))) (sym (returns-clause-order c))
    (found (Contains c.args.replicas.now) (λ node. not (is_member c.args.progress.asked node)) _ on_route)

pub returns-clause-replica : goal.returns-clause-replica
returns-clause-replica c = IfSome_then c.or-2.result (first_is_free c) (λ n free. free.0)

pub returns-clause-unasked : goal.returns-clause-unasked
returns-clause-unasked c = IfSome_then c.or-2.result (first_is_free c) (λ n free. not_member c.args.progress.asked n free.1)

pub returns-clause-exhausted : goal.returns-clause-exhausted
returns-clause-exhausted c = (
  λ none. c.next_target.ensures.exhausted.0 (or_none _ _ (rw c.or-2.ensures at none)),
  λ all.
      let p = λ (node : NodeId). not (is_member c.args.progress.asked node) in
      let last = is_none _ (c.next_target.ensures.exhausted.1 all) in
      let none = none_of_list p _ _ (sym c.next_target.ensures.order ∙ last) in
      let named = none_named p c.args.progress.named c.args.replicas.now none in
      let own = none_own p c.args.self c.args.gateway c.args.replicas.now none in
      rw (c.or-2.ensures, c.or.ensures, c.first_named.ensures, c.first_own.ensures, named, own, last) refl,
)
