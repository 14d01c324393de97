use Rattle.std.proofs.Common.{sym, subst}
use Rattle.placement.specs.Fitting.{ServeFor}
use Rattle.zone_report.proofs.Homes.{serves}
use Rattle.zone_report.proofs.lacks.lack_at.Goals as goal

pub place-requires-clause-nodes : goal.place-requires-clause-nodes
place-requires-clause-nodes c =
    subst (λ x. ServeFor x c.args.nodes.now) (sym c.in_ok-config.ensures.configuration) (serves c.args.nodes.now c.args.database.now c.args.table.now c.args.partition c.requires.table c.requires.nodes)
