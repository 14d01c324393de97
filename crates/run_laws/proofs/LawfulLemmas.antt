use Rattle.std.proofs.Common.{◌∷◌}
use Rattle.run_laws.specs.Lawful.{IsLawful, IsPermitted}
use Rattle.run_words.proofs.HappenedLemmas.{always_at, always_before, happened_place}
use Rattle.run_words.specs.Happened.{Happened, IsPlace}
use Rattle.run_words.specs.History.{Item, History}
use Rattle.run_words.specs.Setup.{Setup}

-- the older part of a lawful history
pub older_lawful : (setup : Setup) (h older : History) → IsLawful setup h → IsPlace older h → IsLawful setup older
older_lawful setup h older l p = always_before (λ x g. IsPermitted setup g x) h older l p

-- each item of one
pub permitted_at : (setup : Setup) (h : History) (x : Item) (older : History) → IsLawful setup h → IsPlace (x ∷ older) h
    → IsPermitted setup older x
permitted_at setup h x older l p = always_at (λ y g. IsPermitted setup g y) h x older l p

-- what happened in one
pub happened_so : (setup : Setup) (h : History) (P : Item → History → Type 0) → IsLawful setup h → Happened P h
    → (x : Item) × (older : History) × IsPlace (x ∷ older) h × P x older × IsPermitted setup older x × IsLawful setup older
happened_so setup h P l e =
    let f : (x : Item) × (older : History) × IsPlace (x ∷ older) h × P x older = happened_place P h e in
    let here : IsLawful setup (f.0 ∷ f.1) = older_lawful setup h (f.0 ∷ f.1) l f.2 in
    (f.0, f.1, f.2, f.3, here.0, here.1)
