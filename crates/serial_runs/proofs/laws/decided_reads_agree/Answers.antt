use Rattle.std.specs.Prelude.{◌↔◌}
use Rattle.held_reads.proofs.FedLemmas.{fed_agrees}
use Rattle.held_reads.proofs.HeldLemmas.{served_held}
use Rattle.held_reads.proofs.KeptLemmas.{lawful_kept}
use Rattle.mvcc_range.specs.Answer.{IsRow}
use Rattle.run_laws.specs.Held.{IsHeld}
use Rattle.held_reads.specs.Laws.{HeldReadsAgree}
use Rattle.serial_runs.proofs.DecidedReads.{decided_reads}
use Rattle.serial_runs.proofs.laws.decided_reads_agree.Goals as goal

held_agree : HeldReadsAgree
held_agree = λ setup h d s key value sound keeps held was inside.
    let both : IsRow s.entries s.read key value ↔ IsHeld setup h s.range s.read.at key value = served_held setup sound h keeps s was key value inside in
    ((λ x. both.1 ((held key value).0 x)), (λ x. (held key value).1 (both.0 x)))

pub returns : goal.returns
returns c =
    λ setup h ds t a ts s key value sound lawful are decides among at inside.
    decided_reads setup h ds t a ts s key value (lawful_kept setup h lawful)
    (λ s g d served fed whole keeps each are. fed_agrees s whole g keeps d served fed each are) held_agree sound lawful are decides among at inside
