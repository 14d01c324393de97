use Rattle.std.specs.Prelude.{◌↔◌}
use Rattle.mvcc_range.specs.Answer.{IsRow}
use Rattle.run_laws.specs.Held.{IsHeld}
use Rattle.held_reads.proofs.HeldLemmas.{served_held}
use Rattle.held_reads.proofs.laws.held_reads_agree.Goals as goal

pub returns : goal.returns
returns c =
    λ setup h d s key value sound keeps held was inside.
    let both : IsRow s.entries s.read key value ↔ IsHeld setup h s.range s.read.at key value = served_held setup sound h keeps s was key value inside in
    ((λ x. both.1 ((held key value).0 x)), (λ x. (held key value).1 (both.0 x)))
