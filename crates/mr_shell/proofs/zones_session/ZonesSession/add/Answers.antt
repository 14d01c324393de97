use Rattle.mr_shell.proofs.ZoneLines.{has_run_node}
use Rattle.mr_shell.proofs.zones_session.ZonesSession.add.Goals as goal

pub returns-clause-runs : goal.returns-clause-runs
returns-clause-runs c =
    λ clock start text before written h.
    has_run_node start c.args.info clock text before c.args.self.now written c.push.new.self c.in_ok-push.ensures.ok h
