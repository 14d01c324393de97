use Rattle.row_locality.proofs.EncodingLemmas.{is_too_long}
use Rattle.row_locality.proofs.row_values.is_short.Goals as goal

pub returns-in-None : goal.returns-in-None
returns-in-None c =
    is_too_long c.args.columns.now c.loop-v.v-index c.v-item.result c.loop-v.room c.loop-v-test.true c.v-item.is c.loop-v.invariant c.in-None.ensures
