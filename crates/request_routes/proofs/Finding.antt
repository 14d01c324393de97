-- Searches one after the other, and among some of a list.
use Rattle.std.proofs.Common.{◌≡◌, ◌++◌, ◌∙◌, ◌&&◌, Bool, true, false, cond, List, [], ◌∷◌, Option, Some, None, IsNone, IfSome, All, Contains, find, filter, refl, ap, sym}
use Rattle.std.specs.Option.{option_or}
use Rattle.std.specs.List.{AllByRecursion}
use Rattle.std.proofs.lemmas.List.Elements.{All-contains_itself, All-filter, recursion_from_All}
use Rattle.std.proofs.lemmas.List.Folds.{find-append}

-- three searches
pub find_in_turn : {X : Type 0} (p : X → Bool) (xs ys zs : List X) → option_or (option_or (find p xs) (find p ys)) (find p zs) ≡ find p (xs ++ ys ++ zs)
find_in_turn p xs ys zs = rw (find-append p (xs ++ ys) zs, find-append p xs ys) refl

-- the first that passes among those that q picks
pub find_among : {X : Type 0} (p q : X → Bool) (xs : List X) → find (λ x. q x && p x) xs ≡ find p (filter q xs)
find_among p q [] = refl
find_among p q (x ∷ xs) =
    elim (q x) as (λ b. cond (b && p x) (Some x) (find (λ y. q y && p y) xs) ≡ find p (cond b (x ∷ filter q xs) (filter q xs))) [
      | true ↦ ap (cond (p x) (Some x)) (find_among p q xs)
      | false ↦ find_among p q xs
    ]

-- what is found is of the list, and passes
found_here : {X : Type 0} (P : X → Type 0) (p : X → Bool) (xs : List X) → AllByRecursion P xs → IfSome (find p xs) (λ x. P x × (p x ≡ true))
found_here P p [] all = tt
found_here P p (x ∷ xs) all =
    elim (p x) as (λ b. p x ≡ b → IfSome (cond b (Some x) (find p xs)) (λ y. P y × (p y ≡ true))) [
      | true ↦ λ e. (all.0, e)
      | false ↦ λ e. found_here P p xs all.1
    ] refl

pub found : {X : Type 0} (P : X → Type 0) (p : X → Bool) (xs : List X) → All P xs → IfSome (find p xs) (λ x. P x × (p x ≡ true))
found P p xs all = found_here P p xs (recursion_from_All P xs all)

-- where nothing of a list passes, nothing of some of it does
pub none_among : {X : Type 0} (p q : X → Bool) (xs : List X) → find p xs ≡ None → find p (filter q xs) ≡ None
none_among p q [] none = refl
none_among p q (x ∷ xs) none =
    elim (p x) as (λ b. p x ≡ b → cond b (Some x) (find p xs) ≡ None → find p (cond (q x) (x ∷ filter q xs) (filter q xs)) ≡ None) [
      | true ↦ λ e some. cc
      | false ↦ λ e rest. elim (q x) as (λ c. find p (cond c (x ∷ filter q xs) (filter q xs)) ≡ None) [
        | true ↦ ap (λ b. cond b (Some x) (find p (filter q xs))) e ∙ none_among p q xs rest
        | false ↦ none_among p q xs rest
      ]
    ] refl none

pub some_of : {X : Type 0} (q : X → Bool) (xs : List X) → All (Contains xs) (filter q xs)
some_of q xs = All-filter q (Contains xs) xs (All-contains_itself xs)

pub is_none : {X : Type 0} (o : Option X) → IsNone o → o ≡ None
is_none None h = refl
is_none (Some x) h = cc

pub or_none : {X : Type 0} (o p : Option X) → IsNone (option_or o p) → IsNone p
or_none None p h = h
or_none (Some x) p h = cc

pub or_is_none : {X : Type 0} (o p : Option X) → option_or o p ≡ None → p ≡ None
or_is_none None p h = h
or_is_none (Some x) p h = cc

-- what isn't found in a whole isn't found in its end
pub none_of_list : {X : Type 0} (p : X → Bool) (xs ys : List X) → find p (xs ++ ys) ≡ None → find p ys ≡ None
none_of_list p xs ys none = or_is_none (find p xs) (find p ys) (sym (find-append p xs ys) ∙ none)
