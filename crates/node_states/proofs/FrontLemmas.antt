-- Lists of which a front was changed.
use Rattle.std.proofs.Common.{◌≡◌, ℕ, zero, suc, ◌<◌, ◌+◌, Bool, true, false, List, [], ◌∷◌, ◌++◌, length, get_or, set, take, drop, map, refl, ap, ◌∙◌, arith}
use Rattle.std.specs.List.{list_any}
use Rattle.std.proofs.lemmas.List.Folds.{list_any_at}

-- what isn't in the front is as before
behind_front : {X : Type 0} (f : X → X) (xs : List X) (i : ℕ) (d : X) → i < length xs → get_or (map f (take i xs) ++ drop i xs) i d ≡ get_or xs i d
behind_front f [] i d h = absurd (omega arith)
behind_front f (x ∷ xs) zero d h = refl
behind_front f (x ∷ xs) (suc i) d h = behind_front f xs i d (omega arith)

-- the front with one more
longer_front : {X : Type 0} (f : X → X) (xs : List X) (i : ℕ) (d : X) → i < length xs
    → set (map f (take i xs) ++ drop i xs) i (f (get_or xs i d)) ≡ map f (take (suc i) xs) ++ drop (suc i) xs
longer_front {X = X} f [] i d h = absurd (omega arith)
longer_front {X = X} f (x ∷ xs) zero d h = refl
longer_front {X = X} f (x ∷ xs) (suc i) d h = ap (λ (ys : List X). f x ∷ ys) (longer_front f xs i d (omega arith))

-- where no element has a property, this one behind the front hasn't
pub none_behind : {X : Type 0} (f : X → X) (p : X → Bool) (xs ys : List X) (i : ℕ) (d : X) → list_any p xs ≡ false → i < length xs
    → ys ≡ map f (take i xs) ++ drop i xs → p (get_or ys i d) ≡ false
none_behind {X = X} f p xs ys i d none h front =
    ap (λ (zs : List X). p (get_or zs i d)) front ∙ ap p (behind_front f xs i d h)
    ∙ (elim (p (get_or xs i d)) as (λ b. p (get_or xs i d) ≡ b → b ≡ false) [ true ↦ λ e. cc (list_any_at p xs i d h e, none) | false ↦ λ e. refl ] refl)

-- the front grows by the element that is changed
pub front_grows : {X : Type 0} (f : X → X) (xs ys : List X) (i : ℕ) (d y : X) → i < length xs → ys ≡ map f (take i xs) ++ drop i xs → y ≡ f (get_or ys i d)
    → set ys i y ≡ map f (take (i + 1) xs) ++ drop (i + 1) xs
front_grows {X = X} f xs ys i d y h front same =
    let at : get_or ys i d ≡ get_or xs i d = ap (λ (zs : List X). get_or zs i d) front ∙ behind_front f xs i d h in
    let one : suc i ≡ i + 1 = omega arith in
    ap (λ (z : X). set ys i z) (same ∙ ap f at) ∙ ap (λ (zs : List X). set zs i (f (get_or xs i d))) front ∙ longer_front f xs i d h
    ∙ ap (λ (k : ℕ). map f (take k xs) ++ drop k xs) one
