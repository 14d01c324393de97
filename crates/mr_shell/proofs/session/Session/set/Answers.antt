use Rattle.std.proofs.Common.{refl, ap}
use Rattle.scenario.specs.declared.lines.Line.TheVariants as lines
use Rattle.one_node.specs.View.{View}
use Rattle.one_node_laws.specs.LinesRun.{no_lines}
use Rattle.mr_shell.proofs.RunLines.{has_run_anew}
use Rattle.mr_shell.proofs.session.Session.set.Goals as goal

pub returns-clause-runs : goal.returns-clause-runs
returns-clause-runs c =
    λ report text before written h.
    has_run_anew (lines.Cluster c.args.settings) text before report written c.args.self.now c.args.settings c.new.result (no_lines c.args.settings 0) h refl refl c.new.ensures.run c.requires.empty (ap (λ (v : View). v.journal) c.new.ensures.made)
