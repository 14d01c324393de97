use Rattle.std.proofs.Common.{◌∙◌, sym}
use Rattle.placement.proofs.TestedNodes.{serving, serving_back}
use Rattle.placement.proofs.fitting.serve_for.Goals as goal

pub returns : goal.returns
returns c = (λ yes. serving c.args.c.now c.args.nodes.now (sym c.serve.ensures ∙ yes), λ h. c.serve.ensures ∙ serving_back c.args.c.now c.args.nodes.now h)
