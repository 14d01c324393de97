use Rattle.std.proofs.Common.{◌≤◌, [], ◌∷◌, inl, inr, sym, subst, le_refl, le_trans}
use Rattle.std.specs.Prelude.{◌⊎◌}
use Rattle.run_words.specs.Clocks.{peak}
use Rattle.run_words.proofs.HappenedLemmas.{always_before, place_itself, place_of_place}
use Rattle.run_words.specs.Happened.{IsPlace}
use Rattle.run_words.specs.History.{History, Item}
use Rattle.run_words.specs.Setup.{Setup}
use Rattle.visible_runs.proofs.PeakLemmas.{peak_rises}
use Rattle.visible_runs.specs.Laws.{NameNodes, NamesNode}

-- of two places one is before the other
pub place_order : (h a b : History) → IsPlace a h → IsPlace b h → IsPlace a b ⊎ IsPlace b a
place_order [] a b p q = inl (subst (λ (g : History). IsPlace a g) (sym q) p)
place_order (x ∷ h) a b (inl p) q = inr (subst (λ (g : History). IsPlace b g) (sym p) q)
place_order (x ∷ h) a b (inr p) (inl q) = inl (subst (λ (g : History). IsPlace a g) (sym q) (inr p))
place_order (x ∷ h) a b (inr p) (inr q) = place_order h a b p q

-- what stood before an item
pub before_item : (h older : History) (x : Item) → IsPlace (x ∷ older) h → IsPlace older h
before_item h older x p = place_of_place h (x ∷ older) older p (inr (place_itself older))

pub older_names : (setup : Setup) (h older : History) → NameNodes setup h → IsPlace older h → NameNodes setup older
older_names setup h older n p = always_before (NamesNode setup) h older n p

pub peak_stays : (setup : Setup) (h older : History) → IsPlace older h → peak setup older ≤ peak setup h
peak_stays setup [] older p = subst (λ (g : History). peak setup older ≤ peak setup g) p (le_refl _)
peak_stays setup (x ∷ h) older (inl p) = subst (λ (g : History). peak setup older ≤ peak setup g) p (le_refl _)
peak_stays setup (x ∷ h) older (inr p) = le_trans (peak_stays setup h older p) (peak_rises setup x h)
