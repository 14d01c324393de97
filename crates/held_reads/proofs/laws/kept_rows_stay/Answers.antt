use Rattle.held_reads.proofs.RefreshLemmas.{rows_stay}
use Rattle.held_reads.proofs.laws.kept_rows_stay.Goals as goal

pub returns : goal.returns
returns c =
    λ setup h s again key value sound keeps was was_again attempt range span later nothing inside.
    rows_stay setup sound h keeps s again was was_again attempt range span later nothing key inside value
