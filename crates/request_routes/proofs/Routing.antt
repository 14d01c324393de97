-- A route leads to replicas of the range alone.
use native.Mathlib.Omega.{arith}
use Rattle.std.proofs.Common.{◌≡◌, Bool, true, List, Option, Some, None, All, Contains, filter, find, not, refl, ◌≢◌}
use Rattle.std.proofs.lemmas.List.Elements.{All-append, All-contains_itself, All-nil}
use Rattle.closed_ts.specs.Routing.{asking_order, is_member, is_node}
use Rattle.mr_base.specs.Nodes.{IsMember}
use Rattle.mr_base.specs.declared.ids.NodeId.{NodeId}
use Rattle.mr_base.specs.declared.nodes.NodeSet.{NodeSet}
use Rattle.request_routes.specs.Routes.{named_first, own_first, preferred, route}
use Rattle.request_routes.specs.declared.routes.Policy.{Policy}
use Rattle.request_routes.specs.declared.routes.Policy.TheVariants as policies
use Rattle.request_routes.proofs.Finding.{none_among, some_of}

named_is_replica : (named : Option NodeId) (replicas : List NodeId) → All (Contains replicas) (named_first named replicas)
named_is_replica None replicas = All-nil (Contains replicas)
named_is_replica (Some node) replicas = some_of (is_node node) replicas

own_is_replica : (policy : Policy) (gateway : NodeId) (replicas : List NodeId) → All (Contains replicas) (own_first policy gateway replicas)
own_is_replica policies.Leaseholder gateway replicas = All-nil (Contains replicas)
own_is_replica policies.OwnFirst gateway replicas = some_of (is_node gateway) replicas
own_is_replica policies.Nearest gateway replicas = some_of (is_node gateway) replicas

asked_in_order_is_replica : (replicas : List NodeId) (near : NodeSet) (hint : NodeId) → All (Contains replicas) (asking_order replicas near hint)
asked_in_order_is_replica replicas near hint =
    let near_ones = some_of (is_member near) replicas in
    let hinted = some_of (is_node hint) replicas in
    All-append (Contains replicas) _ _ (All-append (Contains replicas) _ _ near_ones hinted) (All-contains_itself replicas)

pub route_is_of_replicas : (policy : Policy) (gateway : NodeId) (near : NodeSet) (hint : NodeId) (named : Option NodeId) (replicas : List NodeId) →
    All (Contains replicas) (route policy gateway near hint named replicas)
route_is_of_replicas policy gateway near hint named replicas =
    let first = named_is_replica named replicas in
    let own = own_is_replica policy gateway replicas in
    let others = asked_in_order_is_replica replicas (preferred policy near) hint in
    All-append (Contains replicas) _ _ (All-append (Contains replicas) _ _ first own) others

-- for a read the gateway's own replica goes first
pub own_goes_first : (policy : Policy) (gateway : NodeId) (replicas : List NodeId) → policy ≢ policies.Leaseholder
    → filter (is_node gateway) replicas ≡ own_first policy gateway replicas
own_goes_first policies.Leaseholder gateway replicas other = absurd (other refl)
own_goes_first policies.OwnFirst gateway replicas other = refl
own_goes_first policies.Nearest gateway replicas other = refl

-- where no replica passes, none that is named or the gateway's own does
pub none_named : (p : NodeId → Bool) (named : Option NodeId) (replicas : List NodeId) → find p replicas ≡ None → find p (named_first named replicas) ≡ None
none_named p None replicas none = refl
none_named p (Some node) replicas none = none_among p (is_node node) replicas none

pub none_own : (p : NodeId → Bool) (policy : Policy) (gateway : NodeId) (replicas : List NodeId) → find p replicas ≡ None
    → find p (own_first policy gateway replicas) ≡ None
none_own p policies.Leaseholder gateway replicas none = refl
none_own p policies.OwnFirst gateway replicas none = none_among p (is_node gateway) replicas none
none_own p policies.Nearest gateway replicas none = none_among p (is_node gateway) replicas none

pub not_member : (set : NodeSet) (node : NodeId) → not (is_member set node) ≡ true → ¬ IsMember set node
not_member set node h = grind arith
