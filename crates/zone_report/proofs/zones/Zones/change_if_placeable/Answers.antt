use Rattle.std.proofs.Common.{ap, sym}
use Rattle.zone_report.proofs.Placeable.{served_after, still_placeable}
use Rattle.zone_report.proofs.zones.Zones.change_if_placeable.Goals as goal

pub first_lack-requires-clause-nodes : goal.first_lack-requires-clause-nodes
first_lack-requires-clause-nodes c =
    served_after c.self.inside.nodes c.as_slice.result.now c.args.self.now.contents c.self.inside.catalog c.in_ok-changed.changed c.args.s.now c.as_slice.ensures (ap (λ z. z.contents) c.self.view_is) c.in_ok-changed.ensures c.self.invariant.served

pub invariant_of-self : goal.invariant_of-self
invariant_of-self c =
    still_placeable c.self.inside.nodes c.as_slice.result.now c.args.self.now.contents c.self.inside.catalog c.in_ok-changed.changed c.args.s.now c.in_ok-lack.lack c.as_slice.ensures (ap (λ z. z.contents) c.self.view_is) c.in_ok-changed.ensures c.self.invariant.served (sym c.if-is_some.ensures) c.in_ok-lack.ensures
