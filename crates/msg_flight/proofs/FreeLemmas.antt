-- The free places are a stack: one is taken from its end, and one is put there.
use Rattle.std.proofs.Common.{◌≡◌, ◌≢◌, ℕ, ◌<◌, ◌≤◌, List, [], ◌∷◌, ◌++◌, length, Option, Some, None, arith, subst, sym, ◌∙◌}
use Rattle.std.specs.List.{AllByRecursion}
use Rattle.mr_base.specs.declared.messages.Message.{Message}
use Rattle.msg_flight.specs.Places.{message_at, AreFree}

-- all places but one hold the same, and there are no fewer
pub record SameBut (place : ℕ) (old new : List (Option Message)) : Type 0 where
  pub same : (q : ℕ) → q ≢ place → message_at new q ≡ message_at old q
  pub fits : length old ≤ length new

-- the last of a list is not among the others, where none is named twice
last_apart : (place : ℕ) (p : ℕ) (ps : List ℕ) → AllByRecursion (λ q. q ≢ p) (ps ++ place ∷ []) → AllByRecursion (λ q. q ≢ p) ps × (place ≢ p)
last_apart place p [] h = (tt, h.0)
last_apart place p (q ∷ qs) h = let rest = last_apart place p qs h.1 in ((h.0, rest.0), rest.1)

pub AreFree-pop : (place : ℕ) (old new : List (Option Message)) (ps : List ℕ) → SameBut place old new → AreFree old (ps ++ place ∷ []) → AreFree new ps
AreFree-pop place old new [] s h = tt
AreFree-pop place old new (p ∷ ps) s h =
    let apart = last_apart place p ps h.2 in
    (omega (arith, h.0, s.fits), s.same p (λ e. apart.1 (sym e)) ∙ h.1, apart.0, AreFree-pop place old new ps s h.3)

pub free_last : (place : ℕ) (places : List (Option Message)) (ps : List ℕ) → AreFree places (ps ++ place ∷ []) → (place < length places) × (message_at places place ≡ None)
free_last place places [] h = (h.0, h.1)
free_last place places (p ∷ ps) h = free_last place places ps h.3

push_apart : (place p : ℕ) (ps : List ℕ) → AllByRecursion (λ q. q ≢ p) ps → place ≢ p → AllByRecursion (λ q. q ≢ p) (ps ++ place ∷ [])
push_apart place p [] h n = (n, tt)
push_apart place p (q ∷ qs) h n = (h.0, push_apart place p qs h.1 n)

-- a place that held a message is free now
pub AreFree-push : (place : ℕ) (m : Message) (old new : List (Option Message)) (ps : List ℕ) → SameBut place old new → message_at old place ≡ Some m → message_at new place ≡ None →
    place < length new → AreFree old ps → AreFree new (ps ++ place ∷ [])
AreFree-push place m old new [] s was is l h = (l, is, tt, tt)
AreFree-push place m old new (p ∷ ps) s was is l h =
    let apart : place ≢ p = λ e. let here : message_at old p ≡ Some m = subst (λ (q : ℕ). message_at old q ≡ Some m) e was in cc in
    (omega (arith, h.0, s.fits), s.same p (λ e. apart (sym e)) ∙ h.1, push_apart place p ps h.2 apart, AreFree-push place m old new ps s was is l h.3)

-- free places stay so under more places
pub AreFree-kept : (place : ℕ) (old new : List (Option Message)) (ps : List ℕ) → SameBut place old new → AllByRecursion (λ q. q ≢ place) ps → AreFree old ps → AreFree new ps
AreFree-kept place old new [] s a h = tt
AreFree-kept place old new (p ∷ ps) s a h = (omega (arith, h.0, s.fits), s.same p a.0 ∙ h.1, h.2, AreFree-kept place old new ps s a.1 h.3)
