use Rattle.std.specs.Prelude.{ℕ, ◌&&◌, Bool, false, List, [], ◌++◌, filter, Option, Some, None}
use Rattle.std.specs.Str.{bytes_eq}
use Rattle.closed_ts.specs.Routing.{asking_order, is_node}
use Rattle.mr_base.specs.declared.ids.NodeId.{NodeId}
use Rattle.mr_base.specs.declared.messages.Request.{Request}
use Rattle.mr_base.specs.declared.messages.Request.TheVariants as requests
use Rattle.mr_base.specs.declared.nodes.NodeInfo.{NodeInfo}
use Rattle.mr_base.specs.declared.nodes.NodeSet.{NodeSet}
use Rattle.request_routes.specs.declared.routes.Policy.{Policy}
use Rattle.request_routes.specs.declared.routes.Policy.TheVariants as policies

-- In which order a request goes to the replicas of a range. (Follower reads and global tables: VanBenschoten et al.,
-- SIGMOD 2022; the order is this project's profile.)

-- Any replica may serve a read of a GLOBAL table or of the past.
abbrev pub read_policy : (is_global is_past : Bool) → Policy
read_policy false false = policies.OwnFirst
read_policy _ _ = policies.Nearest

abbrev pub policy_of : Request → (is_global is_past : Bool) → Policy
policy_of (requests.Read a j span at limit known) is_global is_past = read_policy is_global is_past
policy_of (requests.Refresh a j span start at known) is_global is_past = read_policy is_global is_past
policy_of _ is_global is_past = policies.Leaseholder

-- Before all others the replica that a reply named.
abbrev pub named_first : Option NodeId → List NodeId → List NodeId
named_first None replicas = []
named_first (Some named) replicas = filter (is_node named) replicas

-- For a read then the gateway's own replica.
abbrev pub own_first : Policy → NodeId → List NodeId → List NodeId
own_first policies.Leaseholder gateway replicas = []
own_first _ gateway replicas = filter (is_node gateway) replicas

-- The nodes of the gateway's region, where those go before the leaseholder.
abbrev pub preferred : Policy → NodeSet → NodeSet
preferred policies.Nearest near = near
preferred _ near = record { 0 = 0 }

-- Then those of the gateway's region, the one that the hint names, and all as they are listed.
abbrev pub route : Policy → (gateway : NodeId) → NodeSet → (hint : NodeId) → Option NodeId → List NodeId → List NodeId
route policy gateway near hint named replicas =
    named_first named replicas
    ++ own_first policy gateway replicas
    ++ asking_order replicas (preferred policy near) hint

-- The node of this number stands in the region.
abbrev pub stands_in : (region : List ℕ) → NodeId → NodeInfo → Bool
stands_in region n node = is_node node.id n && bytes_eq node.region region
