use Rattle.std.proofs.Common.{refl, ap, subst}
use Rattle.scenario.specs.declared.lines.Line.TheVariants as lines
use Rattle.mr_base.specs.declared.settings.Settings.{Settings}
use Rattle.one_node.specs.Cluster.{IsRunOf}
use Rattle.one_node.specs.View.{View}
use Rattle.one_node_laws.specs.LinesRun.{no_lines}
use Rattle.mr_shell.proofs.RunLines.{has_run_anew}
use Rattle.mr_shell.proofs.session.Session.place.Goals as goal

pub returns-clause-runs : goal.returns-clause-runs
returns-clause-runs c =
    λ info report text before written h.
    has_run_anew (lines.Node info c.args.clock) text before report written c.args.self.now c.args.self.now.settings c.new.result (no_lines h.story.run.settings c.args.clock) h refl h.follows.made (subst (λ (s : Settings). IsRunOf (no_lines s c.args.clock) c.new.result) h.follows.made c.new.ensures.run) c.requires.empty (ap (λ (v : View). v.journal) c.new.ensures.made)
