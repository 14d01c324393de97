use Rattle.std.specs.Prelude.{◌||◌, Option, Some, None, if◌then◌else◌}
use Rattle.closed_ts.specs.Routing.{is_member, is_node}
use Rattle.mr_base.specs.declared.ids.NodeId.{NodeId}
use Rattle.request_routes.specs.declared.progress.Progress.{Progress}

-- What a reply that the replica isn't leaseholder makes of the next replica: the holder that it names, where another
-- node than the gateway says so and the holder wasn't asked. (CockroachDB's documentation of the distribution layer, in
-- this project's profile.)
abbrev pub named_by : (gateway from holder : NodeId) → Progress → Option NodeId
named_by gateway from holder progress =
    if is_node gateway from || is_member progress.asked holder then None else Some holder
