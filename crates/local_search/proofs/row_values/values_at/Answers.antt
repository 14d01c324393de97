use Rattle.std.proofs.Common.{◌++◌, ◌∷◌, [], List, sym, ap, ◌∙◌, get_or}
use Rattle.mr_base.specs.declared.rows.Datum.{Datum}
use Rattle.row_locality.specs.Rows.{values_at}
use Rattle.row_locality.proofs.EncodingLemmas.{values_more}
use Rattle.local_search.proofs.row_values.values_at.Goals as goal

pub loop-place-preserved : goal.loop-place-preserved
loop-place-preserved c =
    let places = c.args.places.now in
    let i = c.loop-place.place-index in
    c.in_ok-push_value_at.ensures
    ∙ ap (λ (vs : List Datum). vs ++ values_at (get_or places i 0 ∷ []) c.args.row.now) c.loop-place.invariant
    ∙ sym (values_more places i c.args.row.now c.loop-place-test.true)
