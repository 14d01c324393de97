use Rattle.std.proofs.Common.{◌∙◌, sym}
use Rattle.local_search.proofs.LookupSteps.{index_found, index_passed, from_the_first}
use Rattle.local_search.proofs.fixed_values.index_for.Goals as goal

pub loop-index-init : goal.loop-index-init
loop-index-init c = from_the_first c.args.t.now c.args.terms.now

pub returns-in-Some : goal.returns-in-Some
returns-in-Some c =
    index_found c.args.t.now c.args.terms.now c.loop-index.index c.columns_of.result.now c.in-Some.values _ c.columns_of.ensures (sym c.in-Some.is ∙ c.in_ok-values.ensures) c.loop-index.invariant

pub loop-index-preserved : goal.loop-index-preserved
loop-index-preserved c =
    index_passed c.args.t.now c.args.terms.now c.loop-index.index c.columns_of.result.now _ c.columns_of.ensures (sym c.in_default.is ∙ c.in_ok-values.ensures) c.loop-index.invariant
