use Rattle.std.proofs.Common.{List, ℕ}
use Rattle.std.specs.Borrow.{Bor}
use Rattle.std.proofs.lemmas.Result.{err_from_is_err_and}
use Rattle.row_locality.proofs.KeyReadingSteps.{place_read, place_fault, places_ended}
use Rattle.row_locality.proofs.key_reading.after_columns.Goals as goal

pub returns-in_err-after : goal.returns-in_err-after
returns-in_err-after c =
    let p = err_from_is_err_and c.from_residual.result c.from_residual.ensures.1 in
    rw (p.1, p.2)
    (place_fault (λ (x : Bor (List ℕ)). x.now) (λ (x : Bor (List ℕ)). x.now) c.in_err-after.field-0.0 c.args.t.now c.loop-place.rest.now c.args.places.now c.loop-place.place-index _ c.loop-place-test.true c.in_err-after.ensures c.loop-place.invariant)

pub loop-place-preserved : goal.loop-place-preserved
loop-place-preserved c =
    place_read c.args.t.now c.loop-place.rest.now c.args.places.now c.loop-place.place-index c.in_ok-after.after.now _ c.loop-place-test.true c.in_ok-after.ensures c.loop-place.invariant

pub returns : goal.returns
returns c = places_ended c.args.t.now c.loop-place.rest.now c.args.places.now c.loop-place.place-index _ c.loop-place-test.false c.loop-place.invariant
