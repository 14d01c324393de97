use Rattle.std.proofs.Common.{◌∙◌, ap, sym}
use Rattle.cluster_state.proofs.NoRangeLemmas.{no_range_first}
use Rattle.sim_nodes.proofs.BegunLemmas.{has_begun}
use Rattle.sim_nodes.specs.NodesValue.{NodesValue}
use Rattle.sim_nodes.proofs.nodes.Nodes.begin.Goals as goal

pub begin-requires-clause-none : goal.begin-requires-clause-none
begin-requires-clause-none c =
    no_range_first c.self.inside.state c.requires.first.0 (c.self.invariant.tied (ap (λ (v : NodesValue). v.ended) c.self.view_is ∙ c.requires.open))
    (ap (λ (v : NodesValue). v.history) c.self.view_is ∙ c.requires.first.1)

pub returns-clause-begun : goal.returns-clause-begun
returns-clause-begun c =
    has_begun c.args.self.now c.self.inside.state c.begin.new.self c.in_ok-begin.ensures.begun (ap (λ (v : NodesValue). v.stage) c.self.view_is) (ap (λ (v : NodesValue). v.history) c.self.view_is)
    c.requires.open
