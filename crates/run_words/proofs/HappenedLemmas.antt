use Rattle.std.proofs.Common.{◌≡◌, [], ◌∷◌, ◌++◌, inl, inr, refl, sym, subst}
use Rattle.run_words.specs.Happened.{Happened, Always, IsPlace}
use Rattle.run_words.specs.History.{Item, History}

not_empty : (x : Item) (h : History) → x ∷ h ≡ [] → ⊥
not_empty x h e = cc

-- a predicate holds of the newest item
abbrev HoldsOfNewest : (Item → History → Type 0) → History → Type 0
HoldsOfNewest P [] = ⊥
HoldsOfNewest P (x ∷ h) = P x h

-- what happened has a place
pub happened_place : (P : Item → History → Type 0) (h : History) → Happened P h → (x : Item) × (older : History) × IsPlace (x ∷ older) h × P x older
happened_place P [] e = absurd e
happened_place P (x ∷ h) (inl p) = (x, h, inl refl, p)
happened_place P (x ∷ h) (inr q) =
    let f : (x : Item) × (older : History) × IsPlace (x ∷ older) h × P x older = happened_place P h q in
    (f.0, f.1, inr f.2, f.3)

-- what holds at a place happened
pub place_happened : (P : Item → History → Type 0) (h : History) (x : Item) (older : History) → IsPlace (x ∷ older) h → P x older → Happened P h
place_happened P [] x older e p = absurd (not_empty x older e)
place_happened P (y ∷ h) x older (inl e) p =
    inl (subst (λ (g : History). HoldsOfNewest P g) e p)
place_happened P (y ∷ h) x older (inr q) p = inr (place_happened P h x older q p)

-- what always holds holds at each place
pub always_at : (P : Item → History → Type 0) (h : History) (x : Item) (older : History) → Always P h → IsPlace (x ∷ older) h → P x older
always_at P [] x older a e = absurd (not_empty x older e)
always_at P (y ∷ h) x older a (inl e) = subst (λ (g : History). HoldsOfNewest P g) (sym e) a.0
always_at P (y ∷ h) x older a (inr q) = always_at P h x older a.1 q

-- what always holds held always at each place
pub always_before : (P : Item → History → Type 0) (h older : History) → Always P h → IsPlace older h → Always P older
always_before P [] older a e = subst (λ (g : History). Always P g) (sym e) a
always_before P (y ∷ h) older a (inl e) = subst (λ (g : History). Always P g) (sym e) a
always_before P (y ∷ h) older a (inr q) = always_before P h older a.1 q

-- what happened by some place has happened
pub happened_since : (P : Item → History → Type 0) (h older : History) → IsPlace older h → Happened P older → Happened P h
happened_since P [] older e p = subst (λ (g : History). Happened P g) e p
happened_since P (y ∷ h) older (inl e) p = subst (λ (g : History). Happened P g) e p
happened_since P (y ∷ h) older (inr q) p = inr (happened_since P h older q p)

-- a place of a place is a place
pub place_of_place : (h middle older : History) → IsPlace middle h → IsPlace older middle → IsPlace older h
place_of_place [] middle older e q = subst (λ (g : History). IsPlace older g) e q
place_of_place (y ∷ h) middle older (inl e) q = subst (λ (g : History). IsPlace older g) e q
place_of_place (y ∷ h) middle older (inr p) q = inr (place_of_place h middle older p q)

-- a history is a place of itself, and an older part one of what came after it
pub place_itself : (h : History) → IsPlace h h
place_itself [] = refl
place_itself (x ∷ h) = inl refl

pub place_after : (newer older : History) → IsPlace older (newer ++ older)
place_after [] older = place_itself older
place_after (x ∷ newer) older = inr (place_after newer older)

-- what is implied by what happened, or by what always holds
pub happened_implies : (P Q : Item → History → Type 0) → ((x : Item) (older : History) → P x older → Q x older) → (h : History) → Happened P h → Happened Q h
happened_implies P Q f [] e = absurd e
happened_implies P Q f (x ∷ h) (inl p) = inl (f x h p)
happened_implies P Q f (x ∷ h) (inr q) = inr (happened_implies P Q f h q)

pub always_implies : (P Q : Item → History → Type 0) → ((x : Item) (older : History) → P x older → Q x older) → (h : History) → Always P h → Always Q h
always_implies P Q f [] a = tt
always_implies P Q f (x ∷ h) a = (f x h a.0, always_implies P Q f h a.1)

-- what always holds holds where something happened
pub always_happened : (P Q : Item → History → Type 0) (h : History) → Always P h → Happened Q h → Happened (λ x older. P x older × Q x older) h
always_happened P Q [] a e = absurd e
always_happened P Q (x ∷ h) a (inl q) = inl (a.0, q)
always_happened P Q (x ∷ h) a (inr q) = inr (always_happened P Q h a.1 q)

-- what never holds didn't happen
pub never_happened : (P : Item → History → Type 0) (h : History) → Always (λ x older. ¬ P x older) h → ¬ Happened P h
never_happened P [] a e = e
never_happened P (x ∷ h) a (inl p) = a.0 p
never_happened P (x ∷ h) a (inr q) = never_happened P h a.1 q
