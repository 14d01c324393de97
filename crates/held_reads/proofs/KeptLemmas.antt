use Rattle.std.proofs.Common.{◌∷◌, []}
use Rattle.held_reads.specs.KeepsReads.{KeepsReads}
use Rattle.run_laws.specs.Lawful.{IsLawful}
use Rattle.run_words.specs.History.{History}
use Rattle.run_words.specs.Setup.{Setup}

-- a lawful history keeps reads
pub lawful_kept : (setup : Setup) (h : History) → IsLawful setup h → KeepsReads setup h
lawful_kept setup [] l = tt
lawful_kept setup (x ∷ h) l = (
  record {
    order = l.0.order;
    served = l.0.served;
    appended = l.0.appended;
    laid = l.0.laid;
    records = l.0.records;
    begun = l.0.begun;
  },
  lawful_kept setup h l.1,
)
