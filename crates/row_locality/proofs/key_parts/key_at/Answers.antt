use Rattle.row_locality.proofs.EncodingLemmas.{key_more}
use Rattle.row_locality.proofs.key_parts.key_at.Goals as goal

pub loop-place-preserved : goal.loop-place-preserved
loop-place-preserved c =
    key_more c.args.number c.args.places.now c.loop-place.place-index c.args.row.now c.loop-place.bytes.items c.push_value_at.new.bytes.items c.loop-place-test.true c.loop-place.invariant c.in_ok-push_value_at.ensures
