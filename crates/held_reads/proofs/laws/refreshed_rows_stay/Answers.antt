use Rattle.held_reads.proofs.KeptLemmas.{lawful_kept}
use Rattle.held_reads.proofs.RefreshLemmas.{rows_stay}
use Rattle.held_reads.proofs.laws.refreshed_rows_stay.Goals as goal

pub returns : goal.returns
returns c =
    λ setup h s again key value sound lawful was was_again attempt range span later nothing inside.
    rows_stay setup sound h (lawful_kept setup h lawful) s again was was_again attempt range span later nothing key inside value
