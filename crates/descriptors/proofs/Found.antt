use Rattle.std.proofs.Common.{◌≡◌, ◌≢◌, ℕ, zero, suc, ◌<◌, ◌≤◌, Bool, true, false, cond, not, ◌&&◌, ◌||◌, List, [], ◌∷◌, Option, None, Some, All, AllPairs, Contains, length, find, get_or, refl, ap, sym, ◌∙◌, arith, subst, is_none, is_some, true≢false}
use Rattle.std.specs.Str.{bytes_eq}
use Rattle.std.proofs.lemmas.List.Elements.{All-head, All-tail, All-cons, All-nil}
use Rattle.std.proofs.lemmas.List.Folds.{Any-from_list_any, list_any-from_Any}
use Rattle.std.proofs.lemmas.Option.{none-some, same_Some}
use Rattle.std.proofs.lemmas.Slice.Eq.{bytes_eq-Decides}
use Rattle.descriptors.specs.declared.refusals.CatalogRefusal.{CatalogRefusal}
use Rattle.descriptors.specs.Lists.{changed, has_name, without}
use Rattle.descriptors.specs.Refusals.{first_of}
use Rattle.descriptors.proofs.Additions.{bytes_same}

-- Tests that are false.
pub and_false : (a b : Bool) → (a && b) ≡ false → a ≡ true → b ≡ false
and_false true b h e = h
and_false false b h e = absurd (true≢false (sym e))

pub or_false : (a b : Bool) → (a || b) ≡ false → (a ≡ false) × (b ≡ false)
or_false true b h = absurd (true≢false h)
or_false false b h = (refl, h)

pub and_true : (a b : Bool) → (a && b) ≡ true → (a ≡ true) × (b ≡ true)
and_true true b h = (refl, h)
and_true false b h = absurd (true≢false (sym h))

pub there : {A : Type 0} (o : Option A) → is_none o ≡ false → (x : A) × (o ≡ Some x)
there None h = absurd (true≢false h)
there (Some x) h = (x, refl)

pub nowhere : {A : Type 0} (o : Option A) → is_some o ≡ false → o ≡ None
nowhere None h = refl
nowhere (Some x) h = absurd (true≢false h)

pub have : {A : Type 0} (o : Option A) → is_some o ≡ true → (x : A) × (o ≡ Some x)
have None h = absurd (true≢false (sym h))
have (Some x) h = (x, refl)

abbrev pub NoneApplies : List (Bool × CatalogRefusal) → Type 0
NoneApplies [] = Unit {0}
NoneApplies (row ∷ rows) = (row.0 ≡ false) × NoneApplies rows

-- Nothing refused: no row applies.
pub none_applies : (rows : List (Bool × CatalogRefusal)) → first_of rows ≡ None → NoneApplies rows
none_applies [] h = tt
none_applies (row ∷ rows) h = by row.0 refl (none_applies rows)
  where
    by : (b : Bool) → row.0 ≡ b → (first_of rows ≡ None → NoneApplies rows) → NoneApplies (row ∷ rows)
    by true e rest = absurd (none-some row.1 (sym (ap (λ b. cond b (Some row.1) (first_of rows)) (sym e) ∙ h)))
    by false e rest = (e, rest (ap (λ b. cond b (Some row.1) (first_of rows)) (sym e) ∙ h))

-- What is found stands in the list and passes.
pub found : {X : Type 0} (p : X → Bool) (xs : List X) (x : X) → find p xs ≡ Some x → Contains xs x × (p x ≡ true)
found p [] x h = absurd (none-some x h)
found {X} p (y ∷ ys) x h = by (p y) refl (found p ys x)
  where
    by : (b : Bool) → p y ≡ b → (find p ys ≡ Some x → Contains ys x × (p x ≡ true)) → Contains (y ∷ ys) x × (p x ≡ true)
    by true e rest =
        let same : y ≡ x = same_Some y x (ap (λ b. cond b (Some y) (find p ys)) (sym e) ∙ h) in
        ((0, omega arith, same), subst (λ (z : X). p z ≡ true) same e)
    by false e rest =
        let r = rest (ap (λ b. cond b (Some y) (find p ys)) (sym e) ∙ h) in
        ((suc r.0.0, omega (arith, r.0.1), r.0.2), r.1)

-- Where nothing is found, nothing passes.
pub none_found : {X : Type 0} (p : X → Bool) (xs : List X) → find p xs ≡ None → All (λ x. p x ≡ false) xs
none_found p [] h = All-nil (λ x. p x ≡ false)
none_found {X} p (y ∷ ys) h = by (p y) refl (none_found p ys)
  where
    by : (b : Bool) → p y ≡ b → (find p ys ≡ None → All (λ x. p x ≡ false) ys) → All (λ x. p x ≡ false) (y ∷ ys)
    by true e rest = absurd (none-some y (sym (ap (λ b. cond b (Some y) (find p ys)) (sym e) ∙ h)))
    by false e rest = All-cons (λ x. p x ≡ false) y ys e (rest (ap (λ b. cond b (Some y) (find p ys)) (sym e) ∙ h))

-- The changed item is found where the test still passes for it.
pub find-changed : {X : Type 0} (p : X → Bool) (f : X → X) → ((x : X) → p (f x) ≡ p x) → (xs : List X) (x : X) → find p xs ≡ Some x → find p (changed p f xs) ≡ Some (f x)
find-changed p f keeps [] x h = absurd (none-some x h)
find-changed {X} p f keeps (y ∷ ys) x h = by (p y) refl (find-changed p f keeps ys x)
  where
    by : (b : Bool) → p y ≡ b → (find p ys ≡ Some x → find p (changed p f ys) ≡ Some (f x)) → find p (changed p f (y ∷ ys)) ≡ Some (f x)
    by true e rest =
        ap (λ b. find p (cond b (f y ∷ ys) (y ∷ changed p f ys))) e
        ∙ ap (λ b. cond b (Some (f y)) (find p ys)) (keeps y ∙ e)
        ∙ ap (λ z. Some (f z)) (same_Some y x (ap (λ b. cond b (Some y) (find p ys)) (sym e) ∙ h))
    by false e rest =
        ap (λ b. find p (cond b (f y ∷ ys) (y ∷ changed p f ys))) e
        ∙ ap (λ b. cond b (Some y) (find p (changed p f ys))) e
        ∙ rest (ap (λ b. cond b (Some y) (find p ys)) (sym e) ∙ h)

-- What another test finds, where none passes both and the change keeps that so.
pub find-changed_other : {X : Type 0} (p q : X → Bool) (f : X → X) → ((x : X) → q (f x) ≡ q x) → ((x : X) → p x ≡ true → q x ≡ false) → (xs : List X) → find q (changed p f xs) ≡ find q xs
find-changed_other p q f keeps apart [] = refl
find-changed_other {X} p q f keeps apart (y ∷ ys) = by (p y) refl (find-changed_other p q f keeps apart ys)
  where
    by : (b : Bool) → p y ≡ b → find q (changed p f ys) ≡ find q ys → find q (changed p f (y ∷ ys)) ≡ find q (y ∷ ys)
    by true e rest =
        ap (λ b. find q (cond b (f y ∷ ys) (y ∷ changed p f ys))) e
        ∙ ap (λ b. cond b (Some (f y)) (find q ys)) (keeps y ∙ apart y e)
        ∙ sym (ap (λ b. cond b (Some y) (find q ys)) (apart y e))
    by false e rest =
        ap (λ b. find q (cond b (f y ∷ ys) (y ∷ changed p f ys))) e
        ∙ ap (λ r. cond (q y) (Some y) r) rest

pub same_bytes : (a b : List ℕ) → bytes_eq a b ≡ true → a ≡ b
same_bytes a b h = (bytes_eq-Decides a b).0 h

pub differ_bytes : (a b : List ℕ) → bytes_eq a b ≡ false → a ≢ b
differ_bytes a b h e = true≢false (sym (bytes_same a b e) ∙ h)

-- A name among names.
pub named : (names : List (List ℕ)) (n : List ℕ) → has_name names n ≡ true → Contains names n
named names n h =
    let a = Any-from_list_any (bytes_eq n) names h in
    let same : n ≡ a.1 = same_bytes n a.1 a.4 in
    (a.0, a.2, subst (λ m. get_or names a.0 m ≡ m) (sym same) a.3)

pub has_named : (names : List (List ℕ)) (n : List ℕ) → Contains names n → has_name names n ≡ true
has_named names n h = list_any-from_Any (bytes_eq n) names (h.0, n, h.1, h.2, bytes_same n n refl)

pub not_named : (names : List (List ℕ)) (n : List ℕ) → has_name names n ≡ false → (k : ℕ) (d : List ℕ) → k < length names → n ≢ get_or names k d
not_named [] n h k d lt = absurd (omega arith)
not_named (m ∷ names) n h zero d lt = differ_bytes n m (or_false (bytes_eq n m) (has_name names n) h).0
not_named (m ∷ names) n h (suc k) d lt = not_named names n (or_false (bytes_eq n m) (has_name names n) h).1 k d (omega arith)

-- The other names.
pub has_without : (x z : List ℕ) (ys : List (List ℕ)) → x ≢ z → has_name ys z ≡ true → has_name (without x ys) z ≡ true
has_without x z [] differ h = h
has_without x z (y ∷ ys) differ h = by (bytes_eq x y) refl (bytes_eq z y) refl (has_without x z ys differ)
  where
    by : (b : Bool) → bytes_eq x y ≡ b → (e : Bool) → bytes_eq z y ≡ e → (has_name ys z ≡ true → has_name (without x ys) z ≡ true) → has_name (without x (y ∷ ys)) z ≡ true
    by true p true q rest = absurd (differ (same_bytes x y p ∙ sym (same_bytes z y q)))
    by true p false q rest = ap (λ b. has_name (cond (not b) (y ∷ without x ys) (without x ys)) z) p ∙ rest (sym (ap (λ b. b || has_name ys z) q) ∙ h)
    by false p true q rest = ap (λ b. has_name (cond (not b) (y ∷ without x ys) (without x ys)) z) p ∙ ap (λ b. b || has_name (without x ys) z) q
    by false p false q rest = ap (λ b. has_name (cond (not b) (y ∷ without x ys) (without x ys)) z) p ∙ ap (λ b. b || has_name (without x ys) z) q ∙ rest (sym (ap (λ b. b || has_name ys z) q) ∙ h)

pub length-without-le : (x : List ℕ) (ys : List (List ℕ)) → length (without x ys) ≤ length ys
length-without-le x [] = omega arith
length-without-le x (y ∷ ys) = by (bytes_eq x y) refl (length-without-le x ys)
  where
    by : (b : Bool) → bytes_eq x y ≡ b → length (without x ys) ≤ length ys → length (without x (y ∷ ys)) ≤ length (y ∷ ys)
    by true p rest = subst (λ b. length (cond (not b) (y ∷ without x ys) (without x ys)) ≤ length (y ∷ ys)) (sym p) (omega (arith, rest))
    by false p rest = subst (λ b. length (cond (not b) (y ∷ without x ys) (without x ys)) ≤ length (y ∷ ys)) (sym p) (omega (arith, rest))

pub length-without-lt : (x : List ℕ) (ys : List (List ℕ)) → has_name ys x ≡ true → length (without x ys) < length ys
length-without-lt x [] h = absurd (true≢false (sym h))
length-without-lt x (y ∷ ys) h = by (bytes_eq x y) refl (length-without-lt x ys)
  where
    by : (b : Bool) → bytes_eq x y ≡ b → (has_name ys x ≡ true → length (without x ys) < length ys) → length (without x (y ∷ ys)) < length (y ∷ ys)
    by true p rest = subst (λ b. length (cond (not b) (y ∷ without x ys) (without x ys)) < length (y ∷ ys)) (sym p) (omega (arith, length-without-le x ys))
    by false p rest = subst (λ b. length (cond (not b) (y ∷ without x ys) (without x ys)) < length (y ∷ ys)) (sym p) (omega (arith, rest (sym (ap (λ b. b || has_name ys x) p) ∙ h)))

-- Distinct names among others are no more than those.
pub no_more : (xs ys : List (List ℕ)) → AllPairs (λ x y. x ≢ y) xs → All (λ x. has_name ys x ≡ true) xs → length xs ≤ length ys
no_more [] ys d h = omega arith
no_more (x ∷ xs) ys d h =
    let first : has_name ys x ≡ true = All-head (λ x. has_name ys x ≡ true) x xs h in
    let rest : length xs ≤ length (without x ys) = no_more xs (without x ys) (λ i j e lt within. d (suc i) (suc j) e (omega arith) (omega arith)) (λ k e lt. has_without x (get_or xs k e) ys (d 0 (suc k) e (omega arith) (omega arith)) (All-tail (λ x. has_name ys x ≡ true) x xs h k e lt)) in
    omega (arith, rest, length-without-lt x ys first)
