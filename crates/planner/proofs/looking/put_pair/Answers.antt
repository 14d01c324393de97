use Rattle.std.proofs.Common.{List, subst}
use Rattle.std.specs.Prelude.{Ok}
use Rattle.mr_base.specs.declared.spans.Pair.{Pair}
use Rattle.planner.proofs.PutLemmas.{set_there}
use Rattle.planner.specs.Putting.{IsPlaceFor}
use Rattle.planner.proofs.looking.put_pair.Goals as goal

pub returns-in-Ok : goal.returns-in-Ok
returns-in-Ok c =
    let at = subst (λ (ps : List Pair). IsPlaceFor c.args.pair.key ps (Ok c.in-Ok.place)) c.as_slice.ensures.value c.in-Ok.ensures in
    set_there c.args.pair.key c.args.pair.value c.args.pairs.now.items c.in-Ok.place at.0 (at.1 c.args.pair.value)
