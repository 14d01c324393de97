-- What holds of each two elements of a list, by recursion and by places.
use Rattle.std.proofs.Common.{zero, suc, Bool, true, false, cond, List, [], ◌∷◌, ◌++◌, arith}
use Rattle.std.specs.Prelude.{⊤, AllPairs, filter}
use Rattle.std.specs.List.{AllByRecursion}
use Rattle.std.proofs.lemmas.List.Elements.{All-from_recursion}
use Rattle.answer_laws.proofs.Members.{pairs_head, pairs_tail}
use Rattle.answer_laws.proofs.Lists.{each_filter, each_append}

abbrev pub EachTwo : {X : Type 0} → (X → X → Type 0) → List X → Type 0
EachTwo R [] = ⊤
EachTwo R (x ∷ xs) = AllByRecursion (R x) xs × EachTwo R xs

pub each_two : {X : Type 0} (R : X → X → Type 0) (xs : List X) → AllPairs R xs → EachTwo R xs
each_two R [] h = tt
each_two R (x ∷ xs) h = (pairs_head R x xs h, each_two R xs (pairs_tail R x xs h))

pub all_pairs : {X : Type 0} (R : X → X → Type 0) (xs : List X) → EachTwo R xs → AllPairs R xs
all_pairs R [] h i j d p q = absurd (omega arith)
all_pairs R (x ∷ xs) h zero zero d p q = absurd (omega arith)
all_pairs R (x ∷ xs) h zero (suc j) d p q = All-from_recursion (R x) xs h.0 j d (omega arith)
all_pairs R (x ∷ xs) h (suc i) zero d p q = absurd (omega arith)
all_pairs R (x ∷ xs) h (suc i) (suc j) d p q = all_pairs R xs h.1 i j d (omega arith) (omega arith)

two_cond : {X : Type 0} (R : X → X → Type 0) (b : Bool) (x : X) (xs : List X) → AllByRecursion (R x) xs → EachTwo R xs → EachTwo R (cond b (x ∷ xs) xs)
two_cond R true x xs h k = (h, k)
two_cond R false x xs h k = k

pub two_filter : {X : Type 0} (R : X → X → Type 0) (p : X → Bool) (xs : List X) → EachTwo R xs → EachTwo R (filter p xs)
two_filter R p [] h = tt
two_filter R p (x ∷ xs) h = two_cond R (p x) x (filter p xs) (each_filter (R x) p xs h.0) (two_filter R p xs h.1)

-- each two of an append: of the first list, of the second, and one of each
pub two_append : {X : Type 0} (R : X → X → Type 0) (xs ys : List X) → EachTwo R xs → EachTwo R ys → AllByRecursion (λ x. AllByRecursion (R x) ys) xs
    → EachTwo R (xs ++ ys)
two_append R [] ys h k m = k
two_append R (x ∷ xs) ys h k m = (each_append (R x) xs ys h.0 m.0, two_append R xs ys h.1 k m.1)
