-- Members of lists, and what holds of each two of them, by recursion on the list.
use Rattle.std.proofs.Common.{◌≡◌, zero, suc, Bool, true, false, cond, List, [], ◌∷◌, refl, sym, subst, inl, inr, arith}
use Rattle.std.specs.Prelude.{◌⊎◌, AllPairs, Contains, filter, find, Option, Some}
use Rattle.std.specs.List.{AllByRecursion}
use Rattle.std.proofs.lemmas.List.Elements.{recursion_from_All}

abbrev pub Has : {X : Type 0} → X → List X → Type 0
Has x [] = ⊥
Has x (y ∷ ys) = (y ≡ x) ⊎ Has x ys

pub has_itself : {X : Type 0} (x : X) (xs : List X) → Contains xs x → Has x xs
has_itself x [] (k, l, e) = absurd (omega arith)
has_itself x (y ∷ ys) (zero, l, e) = inl e
has_itself x (y ∷ ys) (suc k, l, e) = inr (has_itself x ys (k, omega arith, e))

pub each_has : {X : Type 0} (P : X → Type 0) (x : X) (xs : List X) → AllByRecursion P xs → Has x xs → P x
each_has P x [] h k = absurd k
each_has P x (y ∷ ys) h (inl e) = subst P e h.0
each_has P x (y ∷ ys) h (inr k) = each_has P x ys h.1 k

-- of each two
pub pairs_head : {X : Type 0} (R : X → X → Type 0) (x : X) (xs : List X) → AllPairs R (x ∷ xs) → AllByRecursion (R x) xs
pairs_head R x xs h = recursion_from_All (R x) xs (λ k d l. h 0 (suc k) d (omega arith) (omega arith))

pub pairs_tail : {X : Type 0} (R : X → X → Type 0) (x : X) (xs : List X) → AllPairs R (x ∷ xs) → AllPairs R xs
pairs_tail R x xs h = λ i j d p q. h (suc i) (suc j) d (omega arith) (omega arith)

-- ---- filters

filtered : {X : Type 0} (b : Bool) (y : X) (ys : List X) (x : X) → Has x ys → Has x (cond b (y ∷ ys) ys)
filtered true y ys x h = inr h
filtered false y ys x h = h

-- what passes is kept
pub has_filter : {X : Type 0} (p : X → Bool) (xs : List X) (x : X) → Has x xs → p x ≡ true → Has x (filter p xs)
has_filter p [] x h e = absurd h
has_filter p (y ∷ ys) x (inl q) e = subst (λ b. Has x (cond b (y ∷ filter p ys) (filter p ys))) (sym (subst (λ z. p z ≡ true) (sym q) e)) (inl q)
has_filter p (y ∷ ys) x (inr h) e = filtered (p y) y (filter p ys) x (has_filter p ys x h e)

filter_cases : {X : Type 0} (b : Bool) (y : X) (ys zs : List X) (x : X) (p : X → Bool) → p y ≡ b → (Has x ys → Has x zs × (p x ≡ true)) → Has x (cond b (y ∷ ys) ys)
    → Has x (y ∷ zs) × (p x ≡ true)
filter_cases true y ys zs x p e f (inl q) = (inl q, subst (λ z. p z ≡ true) q e)
filter_cases true y ys zs x p e f (inr h) = (inr (f h).0, (f h).1)
filter_cases false y ys zs x p e f h = (inr (f h).0, (f h).1)

-- what is kept stood there, and passes
pub filter_has : {X : Type 0} (p : X → Bool) (xs : List X) (x : X) → Has x (filter p xs) → Has x xs × (p x ≡ true)
filter_has p [] x h = absurd h
filter_has p (y ∷ ys) x h = filter_cases (p y) y (filter p ys) ys x p refl (filter_has p ys x) h

-- a list with a member has a first
pub first_of_some : {X : Type 0} (xs : List X) (x : X) → Has x xs → (y : X) × (ys : List X) × (xs ≡ y ∷ ys) × Has y xs
first_of_some [] x h = absurd h
first_of_some (y ∷ ys) x h = (y, ys, refl, inl refl)

-- what a search finds is there
found_cases : {X : Type 0} (b : Bool) (y x : X) (ys : List X) (o : Option X) → (o ≡ Some x → Has x ys) → cond b (Some y) o ≡ Some x → Has x (y ∷ ys)
found_cases true y x ys o h e = inl (cc)
found_cases false y x ys o h e = inr (h e)

pub find_has : {X : Type 0} (p : X → Bool) (xs : List X) (x : X) → find p xs ≡ Some x → Has x xs
find_has p [] x e = absurd (cc)
find_has p (y ∷ ys) x e = found_cases (p y) y x ys (find p ys) (find_has p ys x) e
