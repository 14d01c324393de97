use Rattle.cluster_state.proofs.WayLemmas.{at_first, one_further}
use Rattle.cluster_state.proofs.state.State.begin.Goals as goal

pub loop-place-init : goal.loop-place-init
loop-place-init c = at_first c.args.self.now c.requires.tied c.requires.none c.requires.making

pub loop-place-preserved : goal.loop-place-preserved
loop-place-preserved c = one_further c.args.self.now c.loop-place.self c.make_range.new.self c.loop-place.place c.loop-place.invariant c.in_ok-make_range.ensures.made
