use Rattle.std.proofs.Common.{◌∙◌, sym, subst}
use Rattle.descriptors.specs.Sound.{IsCluster}
use Rattle.zone_report.proofs.Nodes.{is_cluster, new_placeable}
use Rattle.zone_report.proofs.zones.Zones.new.Goals as goal

pub new-requires : goal.new-requires
new-requires c = subst IsCluster (sym (c.as_slice.ensures ∙ c.in_ok-regions.ensures)) (is_cluster c.args.nodes.now c.requires)

pub invariant_of-result : goal.invariant_of-result
invariant_of-result c = new_placeable c.args.nodes.now c.in_ok-nodes.nodes c.as_slice.result.now c.in_ok-catalog.catalog c.requires c.in_ok-nodes.ensures (c.as_slice.ensures ∙ c.in_ok-regions.ensures) c.in_ok-catalog.ensures
