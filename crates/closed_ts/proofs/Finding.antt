-- Searches one after the other, and among some of a list.
use Rattle.std.proofs.Common.{◌≡◌, ◌++◌, ◌&&◌, Bool, true, false, cond, List, [], ◌∷◌, Option, Some, None, IsNone, find, filter, refl, ap}
use Rattle.std.specs.Option.{option_or}
use Rattle.std.proofs.lemmas.List.Folds.{find-append}

-- the first of those that q picks
pub find-filter : {X : Type 0} (p q : X → Bool) (xs : List X) → find p (filter q xs) ≡ find (λ x. q x && p x) xs
find-filter p q [] = refl
find-filter p q (x ∷ xs) =
    elim (q x) as (λ b. find p (cond b (x ∷ filter q xs) (filter q xs)) ≡ cond (b && p x) (Some x) (find (λ y. q y && p y) xs)) [
      | true ↦ ap (cond (p x) (Some x)) (find-filter p q xs)
      | false ↦ find-filter p q xs
    ]

-- where nothing passes, nothing passes that is picked besides
pub find_none_among : {X : Type 0} (p q : X → Bool) (xs : List X) → find p xs ≡ None → find (λ x. q x && p x) xs ≡ None
find_none_among p q [] h = refl
find_none_among p q (x ∷ xs) h =
    elim (p x) as (λ b. cond b (Some x) (find p xs) ≡ None → cond (q x && b) (Some x) (find (λ y. q y && p y) xs) ≡ None) [
      | true ↦ λ some. cc
      | false ↦ λ none. elim (q x) as (λ b. cond (b && false) (Some x) (find (λ y. q y && p y) xs) ≡ None) [
        | true ↦ find_none_among p q xs none
        | false ↦ find_none_among p q xs none
      ]
    ] h

-- three searches, of which the last is among all
pub find_in_turn : {X : Type 0} (p q r : X → Bool) (xs : List X) →
    option_or (option_or (find (λ x. q x && p x) xs) (find (λ x. r x && p x) xs)) (find p xs) ≡ find p (filter q xs ++ filter r xs ++ xs)
find_in_turn p q r xs = rw (find-append p (filter q xs ++ filter r xs) xs, find-append p (filter q xs) (filter r xs), find-filter p q xs, find-filter p r xs) refl

pub is_none : {X : Type 0} (o : Option X) → IsNone o → o ≡ None
is_none None h = refl
is_none (Some x) h = cc

-- they find nothing where the last finds nothing
pub none_in_turn : {X : Type 0} (p q r : X → Bool) (xs : List X) → IsNone (find p xs) →
    IsNone (option_or (option_or (find (λ x. q x && p x) xs) (find (λ x. r x && p x) xs)) (find p xs))
none_in_turn p q r xs h =
    let none = is_none (find p xs) h in
    rw (find_none_among p q xs none, find_none_among p r xs none) h

pub option_or_none : {X : Type 0} (o p : Option X) → IsNone (option_or o p) → IsNone p
option_or_none None p h = h
option_or_none (Some x) p h = cc
