use Rattle.std.proofs.Common.{subst}
use Rattle.scenario.specs.declared.lines.Line.{Line}
use Rattle.mr_shell.specs.Session.{HasRead}
use Rattle.mr_shell.proofs.RunLines.{has_run_quiet}
use Rattle.mr_shell.proofs.session.Session.run.Goals as goal

pub returns-in-Skipped-clause-runs : goal.returns-in-Skipped-clause-runs
returns-in-Skipped-clause-runs g c = λ report text before h. has_run_quiet c.args.line text before report (g.K.Sink.written c.args.sink.now) c.args.self.now c.in-Skipped.is h

pub returns-in-Node-clause-runs : goal.returns-in-Node-clause-runs
returns-in-Node-clause-runs g c =
    λ report text before h.
    c.place.ensures.runs c.in-Node.field-0 report text before (g.K.Sink.written c.args.sink.now) (subst (λ (l : Line). HasRead report l text before c.args.self.now (g.K.Sink.written c.args.sink.now)) c.in-Node.is h)
