use Rattle.std.specs.Prelude.{AllPairs, List, ◌≢◌}
use Rattle.run_laws.specs.Beginnings.{IsSoundSetup}
use Rattle.run_laws.specs.Decided.{AreDecided, Decided}
use Rattle.run_laws.specs.Lawful.{IsLawful}
use Rattle.run_words.specs.History.{History}
use Rattle.run_words.specs.Setup.{Setup}

-- What follows for the order of the decided transactions.

-- The decided transactions of a lawful history stand in one order, that of their timestamps, and each is decided once.
abbrev pub DecidedAreOrdered : Type 0
DecidedAreOrdered =
    (setup : Setup) (h : History) → IsSoundSetup setup → IsLawful setup h
    → (ds : List Decided) × AreDecided setup h ds × AllPairs (λ d e. d.txn ≢ e.txn) ds
