use Rattle.std.proofs.Common.{◌∙◌, sym}
use Rattle.local_search.proofs.LookupSteps.{not_fixed, fixed_more, all_fixed}
use Rattle.local_search.proofs.fixed_values.fixed_values.Goals as goal

pub returns-in-None : goal.returns-in-None
returns-in-None c =
    not_fixed c.args.t.now c.args.terms.now c.args.places.now c.loop-place.place-index c.loop-place.values _ c.loop-place-test.true (sym c.in_ok-fixed_value_at.ensures ∙ c.in-None.is)
    c.loop-place.invariant

pub loop-place-preserved : goal.loop-place-preserved
loop-place-preserved c =
    fixed_more c.args.t.now c.args.terms.now c.args.places.now c.loop-place.place-index c.loop-place.values c.push.new.self c.in-Some.value _ c.loop-place-test.true
    (sym c.in_ok-fixed_value_at.ensures ∙ c.in-Some.is) c.in_ok-push-in-Some.ensures.ok c.loop-place.invariant

pub returns : goal.returns
returns c = all_fixed c.args.t.now c.args.terms.now c.args.places.now c.loop-place.place-index c.loop-place.values _ c.loop-place-test.false c.loop-place.invariant
