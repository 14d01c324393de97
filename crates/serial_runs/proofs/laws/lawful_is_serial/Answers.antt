use Rattle.held_reads.proofs.FedLemmas.{fed_agrees}
use Rattle.held_reads.proofs.KeptLemmas.{lawful_kept}
use Rattle.serial_runs.proofs.Serials.{serial}
use Rattle.serial_runs.proofs.laws.lawful_is_serial.Goals as goal

pub returns : goal.returns
returns c =
    λ setup h sound lawful.
    serial setup h sound lawful (lawful_kept setup h lawful)
    (λ s g d served fed whole keeps each are. fed_agrees s whole g keeps d served fed each are)
