use Rattle.std.proofs.Common.{refl, subst}
use Rattle.scenario.specs.declared.lines.Line.{Line}
use Rattle.mr_shell.specs.ZonesSession.{HasReadZones}
use Rattle.mr_shell.proofs.ZoneLines.{has_run_quiet}
use Rattle.mr_shell.proofs.zones_session.ZonesSession.run.Goals as goal

pub returns-in-Skipped-clause-runs : goal.returns-in-Skipped-clause-runs
returns-in-Skipped-clause-runs g c =
    λ start text before h. has_run_quiet start c.args.line text before c.args.self.now (g.K.Sink.written c.args.sink.now) h (rw c.in-Skipped.is (refl, refl))

pub returns-in-Cluster-clause-runs : goal.returns-in-Cluster-clause-runs
returns-in-Cluster-clause-runs g c =
    λ start text before h. has_run_quiet start c.args.line text before c.args.self.now (g.K.Sink.written c.args.sink.now) h (rw c.in-Cluster.is (refl, refl))

pub returns-in_ok-add-in-Node-clause-runs : goal.returns-in_ok-add-in-Node-clause-runs
returns-in_ok-add-in-Node-clause-runs g c =
    λ start text before h.
    c.in_ok-add-in-Node.ensures.runs c.in-Node.field-1 start text before (g.K.Sink.written c.args.sink.now) (subst (λ (l : Line). HasReadZones start l text before c.args.self.now (g.K.Sink.written c.args.sink.now)) c.in-Node.is h)
