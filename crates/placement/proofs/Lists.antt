use Rattle.std.proofs.Common.{◌≡◌, ◌≢◌, ℕ, zero, suc, ◌+◌, ◌<◌, ◌≤◌, List, [], ◌∷◌, ◌++◌, length, get_or, Bool, true, false, cond, refl, ap, sym, ◌∙◌, subst, inl, inr, arith}
use Rattle.std.specs.Prelude.{◌⊎◌, map, filter, count_by, Contains, All, AllPairs, slice_get, Option, Some, None}
use Rattle.std.specs.List.{cons_option}
use Rattle.std.proofs.lemmas.List.{length-append}
use Rattle.std.proofs.lemmas.List.Sums.{length-filter}
use Rattle.std.proofs.lemmas.List.Elements.{All-contains, filter-append}

-- x is an item of the list
abbrev pub Has : {A : Type 0} → List A → A → Type 0
Has [] x = ⊥
Has (y ∷ ys) x = (y ≡ x) ⊎ Has ys x

-- R holds of each item and each later one
abbrev pub Pairs : {A : Type 0} → (A → A → Type 0) → List A → Type 0
Pairs R [] = Unit {0}
Pairs {A} R (x ∷ xs) = ((y : A) → Has xs y → R x y) × Pairs R xs

pub has_get_or : {A : Type 0} (xs : List A) (k : ℕ) (d : A) → k < length xs → Has xs (get_or xs k d)
has_get_or [] k d h = absurd (omega arith)
has_get_or (x ∷ xs) zero d h = inl refl
has_get_or (x ∷ xs) (suc k) d h = inr (has_get_or xs k d (omega arith))

pub contains_from_has : {A : Type 0} (xs : List A) (x : A) → Has xs x → Contains xs x
contains_from_has [] x h = absurd h
contains_from_has (y ∷ ys) x (inl e) = (0, omega arith, e)
contains_from_has (y ∷ ys) x (inr h) = let found = contains_from_has ys x h in (suc found.0, omega arith, found.2)

pub has_from_contains : {A : Type 0} (xs : List A) (x : A) → Contains xs x → Has xs x
has_from_contains {A} xs x h = let P : A → Type 0 = λ y. Has xs y in subst P h.2 (has_get_or xs h.0 x h.1)

pub all_from_has : {A : Type 0} (P : A → Type 0) (xs : List A) → ((x : A) → Has xs x → P x) → All P xs
all_from_has P xs each k d h = each (get_or xs k d) (has_get_or xs k d h)

pub has_from_all : {A : Type 0} (P : A → Type 0) (xs : List A) → All P xs → (x : A) → Has xs x → P x
has_from_all P xs each x h = All-contains P xs x each (contains_from_has xs x h)

pub all_pairs_from : {A : Type 0} (R : A → A → Type 0) (xs : List A) → Pairs R xs → AllPairs R xs
all_pairs_from R [] h i j d low high = absurd (omega arith)
all_pairs_from R (x ∷ xs) h i zero d low high = absurd (omega arith)
all_pairs_from R (x ∷ xs) h zero (suc j) d low high = h.0 (get_or xs j d) (has_get_or xs j d (omega arith))
all_pairs_from R (x ∷ xs) h (suc i) (suc j) d low high = all_pairs_from R xs h.1 i j d (omega arith) (omega arith)

pub pairs_from_all : {A : Type 0} (R : A → A → Type 0) (xs : List A) → AllPairs R xs → Pairs R xs
pairs_from_all R [] h = tt
pairs_from_all {A} R (x ∷ xs) h = (
  λ y has. let found = contains_from_has xs y has in let P : A → Type 0 = λ z. R x z in subst P found.2 (h 0 (suc found.0) y (omega arith) (omega arith)),
  pairs_from_all R xs (λ i j d low high. h (suc i) (suc j) d (omega arith) (omega arith)),
)

pub has_left : {A : Type 0} (xs ys : List A) (x : A) → Has xs x → Has (xs ++ ys) x
has_left [] ys x h = absurd h
has_left (y ∷ xs) ys x (inl e) = inl e
has_left (y ∷ xs) ys x (inr h) = inr (has_left xs ys x h)

pub has_right : {A : Type 0} (xs ys : List A) (x : A) → Has ys x → Has (xs ++ ys) x
has_right [] ys x h = h
has_right (y ∷ xs) ys x h = inr (has_right xs ys x h)

pub has_either : {A : Type 0} (xs ys : List A) (x : A) → Has (xs ++ ys) x → Has xs x ⊎ Has ys x
has_either [] ys x h = inr h
has_either (y ∷ xs) ys x (inl e) = inl (inl e)
has_either (y ∷ xs) ys x (inr h) = elim (has_either xs ys x h) [ inl k ↦ inl (inr k) | inr k ↦ inr k ]

pub pairs_append : {A : Type 0} (R : A → A → Type 0) (xs ys : List A) → Pairs R xs → Pairs R ys → ((x y : A) → Has xs x → Has ys y → R x y) → Pairs R (xs ++ ys)
pairs_append R [] ys p q h = q
pairs_append R (x ∷ xs) ys p q h = (
  λ y has. elim (has_either xs ys y has) [ inl k ↦ p.0 y k | inr k ↦ h x y (inl refl) k ],
  pairs_append R xs ys p.1 q (λ a b k l. h a b (inr k) l),
)

pub pairs_left : {A : Type 0} (R : A → A → Type 0) (xs ys : List A) → Pairs R (xs ++ ys) → Pairs R xs
pairs_left R [] ys h = tt
pairs_left R (x ∷ xs) ys h = (λ y has. h.0 y (has_left xs ys y has), pairs_left R xs ys h.1)

pub pairs_weaker : {A : Type 0} (R S : A → A → Type 0) (xs : List A) → ((x y : A) → Has xs x → Has xs y → R x y → S x y) → Pairs R xs → Pairs S xs
pairs_weaker R S [] f h = tt
pairs_weaker R S (x ∷ xs) f h = (λ y has. f x y (inl refl) (inr has) (h.0 y has), pairs_weaker R S xs (λ a b k l. f a b (inr k) (inr l)) h.1)

has_kept : {A : Type 0} (p : A → Bool) (y : A) (ys : List A) (x : A) (b : Bool) → p y ≡ b → (Has (filter p ys) x → Has ys x × (p x ≡ true)) → Has (cond b (y ∷ filter p ys) (filter p ys)) x → Has (y ∷ ys) x × (p x ≡ true)
has_kept p y ys x true e rest (inl s) = (inl s, ap p (sym s) ∙ e)
has_kept p y ys x true e rest (inr k) = let found = rest k in (inr found.0, found.1)
has_kept p y ys x false e rest k = let found = rest k in (inr found.0, found.1)

pub has_filter : {A : Type 0} (p : A → Bool) (xs : List A) (x : A) → Has (filter p xs) x → Has xs x × (p x ≡ true)
has_filter p [] x h = absurd h
has_filter p (y ∷ ys) x h = has_kept p y ys x (p y) refl (λ k. has_filter p ys x k) h

kept_has : {A : Type 0} (p : A → Bool) (y : A) (ys : List A) (x : A) (b : Bool) → p y ≡ b → p x ≡ true → (Has ys x → Has (filter p ys) x) → Has (y ∷ ys) x → Has (cond b (y ∷ filter p ys) (filter p ys)) x
kept_has p y ys x true s e rest (inl k) = inl k
kept_has p y ys x true s e rest (inr k) = inr (rest k)
kept_has p y ys x false s e rest (inl k) = let same : p y ≡ p x = ap p k in absurd (cc)
kept_has p y ys x false s e rest (inr k) = rest k

pub filter_has : {A : Type 0} (p : A → Bool) (xs : List A) (x : A) → Has xs x → p x ≡ true → Has (filter p xs) x
filter_has p [] x h e = absurd h
filter_has p (y ∷ ys) x h e = kept_has p y ys x (p y) refl e (λ k. filter_has p ys x k e) h

pub pairs_filter : {A : Type 0} (R : A → A → Type 0) (p : A → Bool) (xs : List A) → Pairs R xs → Pairs R (filter p xs)
pairs_filter R p [] h = tt
pairs_filter R p (x ∷ xs) h = elim (p x) as (λ b. Pairs R (cond b (x ∷ filter p xs) (filter p xs)))
    [ true ↦ (λ y has. h.0 y (has_filter p xs y has).0, pairs_filter R p xs h.1) | false ↦ pairs_filter R p xs h.1 ]

pub has_map : {A B : Type 0} (f : A → B) (xs : List A) (x : A) → Has xs x → Has (map f xs) (f x)
has_map f [] x h = absurd h
has_map f (y ∷ ys) x (inl e) = inl (ap f e)
has_map f (y ∷ ys) x (inr h) = inr (has_map f ys x h)

pub map_has : {A B : Type 0} (f : A → B) (xs : List A) (y : B) → Has (map f xs) y → (x : A) × Has xs x × (f x ≡ y)
map_has f [] y h = absurd h
map_has f (x ∷ xs) y (inl e) = (x, inl refl, e)
map_has f (x ∷ xs) y (inr h) = let found = map_has f xs y h in (found.0, inr found.1, found.2)

pub pairs_map : {A B : Type 0} (R : B → B → Type 0) (f : A → B) (xs : List A) → Pairs (λ x y. R (f x) (f y)) xs → Pairs R (map f xs)
pairs_map R f [] h = tt
pairs_map {A} {B} R f (x ∷ xs) h =
    (λ y has. let found = map_has f xs y has in let P : B → Type 0 = λ z. R (f x) z in subst P found.2 (h.0 found.0 found.1), pairs_map R f xs h.1)

pub pairs_unmap : {A B : Type 0} (R : B → B → Type 0) (f : A → B) (xs : List A) → Pairs R (map f xs) → Pairs (λ x y. R (f x) (f y)) xs
pairs_unmap R f [] h = tt
pairs_unmap R f (x ∷ xs) h = (λ y has. h.0 (f y) (has_map f xs y has), pairs_unmap R f xs h.1)

-- a list without one of its items
without : {A : Type 0} (ys : List A) (x : A) → Has ys x → (zs : List A) × (length ys ≡ suc (length zs)) × ((z : A) → x ≢ z → Has ys z → Has zs z)
without [] x h = absurd h
without (y ∷ ys) x (inl e) = (ys, refl, λ z ne has. elim has [ inl s ↦ absurd (ne (sym e ∙ s)) | inr k ↦ k ])
without {A} (y ∷ ys) x (inr h) =
    let rest = without ys x h in
    (y ∷ rest.0, ap suc rest.1, λ z ne has. elim has [ inl s ↦ inl s | inr k ↦ inr (rest.2 z ne k) ])

-- different items of a list are no more than its items
pub no_more : {A : Type 0} (xs ys : List A) → Pairs (λ x y. x ≢ y) xs → ((x : A) → Has xs x → Has ys x) → length xs ≤ length ys
no_more [] ys p h = omega arith
no_more (x ∷ xs) ys p h =
    let rest = without ys x (h x (inl refl)) in
    let fewer : length xs ≤ length rest.0 = no_more xs rest.0 p.1 (λ z has. rest.2 z (p.0 z has) (h z (inr has))) in
    let size : length ys ≡ suc (length rest.0) = rest.1 in
    omega arith

-- one item more
pub count_first : {A : Type 0} (p : A → Bool) (x : A) (xs : List A) → count_by p (x ∷ xs) ≡ cond (p x) 1 0 + count_by p xs
count_first p x xs = sym (length-filter p (x ∷ xs)) ∙ elim (p x) as (λ b. length (cond b (x ∷ filter p xs) (filter p xs)) ≡ cond b 1 0 + count_by p xs)
    [ true ↦ (let rest = length-filter p xs in omega arith) | false ↦ (let rest = length-filter p xs in omega arith) ]

pub count_append : {A : Type 0} (p : A → Bool) (xs ys : List A) → count_by p (xs ++ ys) ≡ count_by p xs + count_by p ys
count_append p xs ys =
    sym (length-filter p (xs ++ ys)) ∙ ap length (filter-append p xs ys) ∙ length-append (filter p xs) (filter p ys)
    ∙ ap (λ n. n + length (filter p ys)) (length-filter p xs) ∙ ap (λ n. count_by p xs + n) (length-filter p ys)

no_items : {A : Type 0} (xs : List A) → ((x : A) → Has xs x → ⊥) → length xs ≡ 0
no_items [] h = refl
no_items (x ∷ xs) h = absurd (h x (inl refl))

some_items : {A : Type 0} (xs : List A) (x : A) → Has xs x → 1 ≤ length xs
some_items [] x h = absurd h
some_items (y ∷ ys) x h = omega arith

pub count_has : {A : Type 0} (p : A → Bool) (xs : List A) (x : A) → Has xs x → p x ≡ true → 1 ≤ count_by p xs
count_has p xs x h e = let some = some_items (filter p xs) x (filter_has p xs x h e) in let size = length-filter p xs in omega arith

pub count_none : {A : Type 0} (p : A → Bool) (xs : List A) → ((x : A) → Has xs x → p x ≡ false) → count_by p xs ≡ 0
count_none p xs h = sym (length-filter p xs) ∙ no_items (filter p xs) (λ x k. let found = has_filter p xs x k in let out = h x found.0 in cc found.1)

pub count_each : {A : Type 0} (p : A → Bool) (xs : List A) → ((x : A) → Has xs x → p x ≡ true) → count_by p xs ≡ length xs
count_each p [] h = refl
count_each p (x ∷ xs) h = count_first p x xs ∙ ap (λ b. cond b 1 0 + count_by p xs) (h x (inl refl)) ∙ (let rest = count_each p xs (λ y k. h y (inr k)) in omega arith)

at_most_one : {A : Type 0} (xs : List A) → Pairs (λ x y. ⊥) xs → length xs ≤ 1
at_most_one [] h = omega arith
at_most_one (x ∷ []) h = omega arith
at_most_one (x ∷ y ∷ xs) h = absurd (h.0 y (inl refl))

-- at most one item passes where no two do
pub count_one : {A : Type 0} (p : A → Bool) (xs : List A) → Pairs (λ x y. p x ≡ true → p y ≡ true → ⊥) xs → count_by p xs ≤ 1
count_one p xs h =
    let one = at_most_one (filter p xs) (pairs_weaker (λ x y. p x ≡ true → p y ≡ true → ⊥) (λ x y. ⊥) (filter p xs) (λ x y k l f. f (has_filter p xs x k).1 (has_filter p xs y l).1) (pairs_filter (λ x y. p x ≡ true → p y ≡ true → ⊥) p xs h)) in
    let size = length-filter p xs in omega arith

one_of_two : (a b : Bool) → (a ≡ false → b ≡ true) → 1 ≤ cond a 1 0 + cond b 1 0
one_of_two true b h = omega arith
one_of_two false b h = rw (h refl) (omega arith)

-- each item passes one of two tests
pub count_both : {A : Type 0} (p q : A → Bool) (xs : List A) → ((x : A) → Has xs x → p x ≡ false → q x ≡ true) → length xs ≤ count_by p xs + count_by q xs
count_both p q [] h = omega arith
count_both p q (x ∷ xs) h =
    let rest = count_both p q xs (λ y k. h y (inr k)) in
    let here = one_of_two (p x) (q x) (h x (inl refl)) in
    let left = count_first p x xs in let right = count_first q x xs in omega arith

pub has_option : {A : Type 0} (o : Option A) (xs : List A) (x : A) → Has (cons_option o xs) x → (o ≡ Some x) ⊎ Has xs x
has_option None xs x h = inr h
has_option (Some y) xs x (inl e) = inl (ap Some e)
has_option (Some y) xs x (inr h) = inr h

pub has_slice_get : {A : Type 0} (xs : List A) (k : ℕ) (x : A) → slice_get xs k ≡ Some x → Has xs x
has_slice_get [] k x e = cc
has_slice_get (y ∷ ys) zero x e = inl (cc)
has_slice_get (y ∷ ys) (suc k) x e = inr (has_slice_get ys k x e)
