use Rattle.std.specs.Prelude.{◌-◌, ◌^◌, ◌==◌, ◌++◌, Bool, not, List, filter, find, Option, bit_and}
use Rattle.mr_base.specs.declared.ids.NodeId.{NodeId}
use Rattle.mr_base.specs.declared.nodes.NodeSet.{NodeSet}

-- A node is in a set, as a test.
abbrev pub is_member : NodeSet → NodeId → Bool
is_member set node = not (bit_and set.0 (2 ^ (node.0 - 1)) == 0)

abbrev pub is_node : NodeId → NodeId → Bool
is_node a b = a.0 == b.0

-- The order in which a request goes to the replicas of a range: to those that are near, then to the one
-- that the hint names, then to all, each time as they are listed. (This project's profile, after routing to
-- the nearest replica and to the leaseholder in VanBenschoten et al., SIGMOD 2022.)
abbrev pub asking_order : List NodeId → NodeSet → NodeId → List NodeId
asking_order replicas near hint = filter (is_member near) replicas ++ filter (is_node hint) replicas ++ replicas

-- The first in that order that wasn't asked.
abbrev pub first_unasked : NodeSet → List NodeId → Option NodeId
first_unasked asked order = find (λ node. not (is_member asked node)) order
