-- Lists that are made of others value by value, and values at the places of others.
use Rattle.std.proofs.Common.{◌≡◌, ℕ, zero, suc, ◌+◌, Bool, true, false, cond, List, [], ◌∷◌, ◌++◌, length, refl, sym, ap, ◌∙◌, subst, inl, inr, arith}
use Rattle.std.specs.Prelude.{filter_map, find, position, slice_get, IsSomeAnd, Option, Some, None, option_and_then}
use Rattle.std.specs.List.{AllByRecursion, AllZip, cons_option, enumerate_from, list_any, position_from}
use Rattle.std.proofs.lemmas.Iterator.Adapters.{position_from-zero}
use Rattle.std.proofs.lemmas.Option.{none-some, same_Some}
use Rattle.answer_laws.proofs.Members.{Has}

-- what stands at a place is a member
pub has_at : {X : Type 0} (xs : List X) (k : ℕ) (x : X) → slice_get xs k ≡ Some x → Has x xs
has_at [] k x e = absurd (none-some x e)
has_at (y ∷ ys) zero x e = inl (same_Some y x e)
has_at (y ∷ ys) (suc k) x e = inr (has_at ys k x e)

-- ---- values made one by one

placed : {X Y : Type 0} (R : X → Y → Type 0) (x : X) (xs : List X) (o : Option Y) (ys : List Y) → IsSomeAnd o (R x) → AllZip R xs ys → AllZip R (x ∷ xs) (cons_option o ys)
placed R x xs None ys h k = absurd h
placed R x xs (Some y) ys h k = (h, k)

-- where each element gives a value, there are as many
pub built : {X Y : Type 0} (R : X → Y → Type 0) (f : X → Option Y) (xs : List X) → ((x : X) → Has x xs → IsSomeAnd (f x) (R x)) → AllZip R xs (filter_map f xs)
built R f [] h = tt
built R f (x ∷ xs) h = placed R x xs (f x) (filter_map f xs) (h x (inl refl)) (built R f xs (λ y m. h y (inr m)))

pub built_from : {X Y : Type 0} (R : X → Y → Type 0) (f : ℕ × X → Option Y) (n : ℕ) (xs : List X)
    → ((k : ℕ) (x : X) → slice_get xs k ≡ Some x → IsSomeAnd (f (n + k, x)) (R x)) → AllZip R xs (filter_map f (enumerate_from n xs))
built_from R f n [] h = tt
built_from R f n (x ∷ xs) h =
    let here : n + 0 ≡ n = omega arith in
    placed R x xs (f (n, x)) (filter_map f (enumerate_from (n + 1) xs)) (subst (λ (m : ℕ). IsSomeAnd (f (m, x)) (R x)) here (h 0 x refl))
    (built_from R f (n + 1) xs (λ k y e.
    let there : n + suc k ≡ (n + 1) + k = omega arith in
    subst (λ (m : ℕ). IsSomeAnd (f (m, y)) (R y)) there (h (suc k) y e)))

-- ---- values at places

pub zip_at : {X Y : Type 0} (R : X → Y → Type 0) (xs : List X) (ys : List Y) (k : ℕ) (x : X) → AllZip R xs ys → slice_get xs k ≡ Some x → IsSomeAnd (slice_get ys k) (R x)
zip_at R [] ys k x h e = absurd (none-some x e)
zip_at R (a ∷ xs) [] k x h e = absurd h
zip_at R (a ∷ xs) (b ∷ ys) zero x h e = subst (λ z. R z b) (same_Some a x e) h.0
zip_at R (a ∷ xs) (b ∷ ys) (suc k) x h e = zip_at R xs ys k x h.1 e

pub zip_last : {X Y : Type 0} (R : X → Y → Type 0) (xs : List X) (x : X) (ys : List Y) → AllZip R (xs ++ x ∷ []) ys → IsSomeAnd (slice_get ys (length xs)) (R x)
zip_last R [] x [] h = absurd h
zip_last R [] x (b ∷ ys) h = h.0
zip_last R (a ∷ xs) x [] h = absurd h
zip_last R (a ∷ xs) x (b ∷ ys) h = zip_last R xs x ys h.1

-- what holds at each place, with what holds of each value
pub zip_each : {X Y : Type 0} (R S : X → Y → Type 0) (P : Y → Type 0) → ((x : X) (y : Y) → R x y → P y → S x y) → (xs : List X) (ys : List Y)
    → AllZip R xs ys → AllByRecursion P ys → AllZip S xs ys
zip_each R S P f [] [] h k = tt
zip_each R S P f [] (b ∷ ys) h k = absurd h
zip_each R S P f (a ∷ xs) [] h k = absurd h
zip_each R S P f (a ∷ xs) (b ∷ ys) h k = (f a b h.0 k.0, zip_each R S P f xs ys h.1 k.1)

-- ---- the first element that passes a test, and its place

-- the first element that passes stands at this place
pub record IsFirstAt {X : Type 0} (p : X → Bool) (xs : List X) (k : ℕ) (x : X) : Type 0 where
  pub found : find p xs ≡ Some x
  pub at : slice_get xs k ≡ Some x
  pub passes : p x ≡ true

first_from : {X : Type 0} (p : X → Bool) (n : ℕ) (xs : List X) (i : ℕ) → position_from p n xs ≡ Some i → (k : ℕ) × (i ≡ n + k) × (x : X) × IsFirstAt p xs k x
first_from p n [] i e = absurd (none-some i e)
first_from {X} p n (y ∷ ys) i e = by (p y) refl (first_from p (n + 1) ys i)
  where
    by : (b : Bool) → p y ≡ b → (position_from p (n + 1) ys ≡ Some i → (k : ℕ) × (i ≡ (n + 1) + k) × (x : X) × IsFirstAt p ys k x)
        → (k : ℕ) × (i ≡ n + k) × (x : X) × IsFirstAt p (y ∷ ys) k x
    by true q rest =
        let same : n ≡ i = same_Some n i (sym (ap (λ b. cond b (Some n) (position_from p (n + 1) ys)) q) ∙ e) in
        (0, omega (arith, same), y, record { found = ap (λ b. cond b (Some y) (find p ys)) q; at = refl; passes = q })
    by false q rest =
        let r = rest (sym (ap (λ b. cond b (Some n) (position_from p (n + 1) ys)) q) ∙ e) in
        (suc r.0, omega (arith, r.1), r.2, record { found = ap (λ b. cond b (Some y) (find p ys)) q ∙ r.3.found; at = r.3.at; passes = r.3.passes })

pub first_at : {X : Type 0} (p : X → Bool) (xs : List X) (i : ℕ) → position p xs ≡ Some i → (x : X) × IsFirstAt p xs i x
first_at p xs i e =
    let r = first_from p 0 xs i (sym (position_from-zero p xs) ∙ e) in
    let same : r.0 ≡ i = omega (arith, r.1) in
    (r.2, subst (λ (k : ℕ). IsFirstAt p xs k r.2) same r.3)

nowhere_from : {X : Type 0} (p : X → Bool) (n : ℕ) (xs : List X) → position_from p n xs ≡ None → list_any p xs ≡ false
nowhere_from p n [] e = refl
nowhere_from {X} p n (y ∷ ys) e = by (p y) refl (nowhere_from p (n + 1) ys)
  where
    by : (b : Bool) → p y ≡ b → (position_from p (n + 1) ys ≡ None → list_any p ys ≡ false) → list_any p (y ∷ ys) ≡ false
    by true q rest = absurd (none-some n (sym e ∙ ap (λ b. cond b (Some n) (position_from p (n + 1) ys)) q))
    by false q rest = rw q (rest (sym (ap (λ b. cond b (Some n) (position_from p (n + 1) ys)) q) ∙ e))

pub nowhere_at : {X : Type 0} (p : X → Bool) (xs : List X) → position p xs ≡ None → list_any p xs ≡ false
nowhere_at p xs e = nowhere_from p 0 xs (sym (position_from-zero p xs) ∙ e)

value_by : {X Y : Type 0} (R : X → Y → Type 0) (p : X → Bool) (xs : List X) (ys : List Y) (o : Option ℕ) (y : Y) → position p xs ≡ o → AllZip R xs ys
    → option_and_then (slice_get ys) o ≡ Some y → (x : X) × (find p xs ≡ Some x) × R x y
value_by R p xs ys None y at h e = absurd (none-some y e)
value_by {X} {Y} R p xs ys (Some k) y at h e =
    let f = first_at p xs k at in
    (f.0, f.1.found, there f.0 (slice_get ys k) (zip_at R xs ys k f.0 h f.1.at) e)
  where
    there : (x : X) (o : Option Y) → IsSomeAnd o (R x) → o ≡ Some y → R x y
    there x None a b = absurd a
    there x (Some z) a b = subst (R x) (same_Some z y b) a

-- a value at the place of the first element that passes is one for this element
pub value_found : {X Y : Type 0} (R : X → Y → Type 0) (p : X → Bool) (xs : List X) (ys : List Y) (y : Y) → AllZip R xs ys
    → option_and_then (slice_get ys) (position p xs) ≡ Some y → (x : X) × (find p xs ≡ Some x) × R x y
value_found R p xs ys y h e = value_by R p xs ys (position p xs) y refl h e
