use Rattle.std.proofs.Common.{sym, subst}
use Rattle.placement.specs.Fitting.{ServeFor}
use Rattle.zone_report.proofs.Homes.{serves}
use Rattle.zone_report.proofs.report.Lines.put_range.Goals as goal

pub put_placed-requires-clause-nodes : goal.put_placed-requires-clause-nodes
put_placed-requires-clause-nodes c =
    subst (λ x. ServeFor x c.args.self.now.nodes.now) (sym c.in_ok-config.ensures.configuration) (serves c.args.self.now.nodes.now c.args.database.now c.args.table.now c.args.partition c.requires.table c.requires.nodes)
