-- Members of lists that are made of others, and tests of them.
use Rattle.std.proofs.Common.{◌≡◌, ℕ, zero, suc, ◌+◌, Bool, true, false, List, [], ◌∷◌, ◌++◌, refl, sym, ap, ◌∙◌, subst, inl, inr, arith}
use Rattle.std.specs.Prelude.{not, option_map, option_and_then, ◌⊎◌, ◌||◌, filter_map, flat_map, map, slice_get, Option, Some, None}
use Rattle.std.specs.List.{cons_option, enumerate_from, list_any}
use Rattle.std.specs.Option.{option_or}
use Rattle.answer_laws.proofs.Members.{Has}

-- ---- options and tests

pub same_some : {A : Type 0} {x y : A} → Some x ≡ Some y → x ≡ y
same_some e = cc

pub false_true : false ≡ true → ⊥
false_true e = absurd (cc)

pub none_if : {A : Type 0} (o : Option A) → ((v : A) → o ≡ Some v → ⊥) → o ≡ None
none_if None h = refl
none_if (Some v) h = absurd (h v refl)

pub or_none : {A : Type 0} (o : Option A) → option_or o None ≡ o
or_none None = refl
or_none (Some x) = refl

pub mapped_some : {X Y : Type 0} (f : X → Y) (o : Option X) (y : Y) → option_map f o ≡ Some y → (x : X) × (o ≡ Some x) × (f x ≡ y)
mapped_some f None y e = absurd (cc)
mapped_some f (Some x) y e = (x, refl, same_some e)

pub then_some : {X Y : Type 0} (f : X → Option Y) (o : Option X) (y : Y) → option_and_then f o ≡ Some y → (x : X) × (o ≡ Some x) × (f x ≡ Some y)
then_some f None y e = absurd (cc)
then_some f (Some x) y e = (x, refl, e)

pub same_option : {A : Type 0} (a b : Option A) → ((v : A) → a ≡ Some v → b ≡ Some v) → ((v : A) → b ≡ Some v → a ≡ Some v) → a ≡ b
same_option None None f g = refl
same_option None (Some v) f g = g v refl
same_option (Some v) b f g = sym (f v refl)

pub same_truth : (a b : Bool) → (a ≡ true → b ≡ true) → (b ≡ true → a ≡ true) → a ≡ b
same_truth true b f g = sym (f refl)
same_truth false true f g = g refl
same_truth false false f g = refl

pub not_both : (b : Bool) → b ≡ true → not b ≡ true → ⊥
not_both true e f = false_true f
not_both false e f = false_true e

pub either_true : (a b : Bool) → (a || b) ≡ true → (a ≡ true) ⊎ (b ≡ true)
either_true true b e = inl refl
either_true false b e = inr e

pub or_first : (a b : Bool) → a ≡ true → (a || b) ≡ true
or_first true b e = refl
or_first false b e = absurd (cc)

pub or_second : (a b : Bool) → b ≡ true → (a || b) ≡ true
or_second true b e = refl
or_second false b e = e

-- ---- appends

pub has_first : {X : Type 0} (xs ys : List X) (x : X) → Has x xs → Has x (xs ++ ys)
has_first [] ys x h = absurd h
has_first (y ∷ xs) ys x (inl e) = inl e
has_first (y ∷ xs) ys x (inr h) = inr (has_first xs ys x h)

pub has_second : {X : Type 0} (xs ys : List X) (x : X) → Has x ys → Has x (xs ++ ys)
has_second [] ys x h = h
has_second (y ∷ xs) ys x h = inr (has_second xs ys x h)

one_later : {X : Type 0} (y x : X) (xs ys : List X) → Has x xs ⊎ Has x ys → Has x (y ∷ xs) ⊎ Has x ys
one_later y x xs ys (inl h) = inl (inr h)
one_later y x xs ys (inr h) = inr h

pub append_has : {X : Type 0} (xs ys : List X) (x : X) → Has x (xs ++ ys) → Has x xs ⊎ Has x ys
append_has [] ys x h = inr h
append_has (y ∷ xs) ys x (inl e) = inl (inl e)
append_has (y ∷ xs) ys x (inr h) = one_later y x xs ys (append_has xs ys x h)

-- ---- maps

pub has_map : {X Y : Type 0} (f : X → Y) (xs : List X) (x : X) → Has x xs → Has (f x) (map f xs)
has_map f [] x h = absurd h
has_map f (y ∷ xs) x (inl e) = inl (ap f e)
has_map f (y ∷ xs) x (inr h) = inr (has_map f xs x h)

pub map_has : {X Y : Type 0} (f : X → Y) (xs : List X) (y : Y) → Has y (map f xs) → (x : X) × Has x xs × (f x ≡ y)
map_has f [] y h = absurd h
map_has f (x ∷ xs) y (inl e) = (x, inl refl, e)
map_has f (x ∷ xs) y (inr h) = let r = map_has f xs y h in (r.0, inr r.1, r.2)

pub has_flat : {X Y : Type 0} (f : X → List Y) (xs : List X) (x : X) (y : Y) → Has x xs → Has y (f x) → Has y (flat_map f xs)
has_flat f [] x y h k = absurd h
has_flat f (z ∷ xs) x y (inl e) k = has_first (f z) (flat_map f xs) y (subst (λ w. Has y (f w)) (sym e) k)
has_flat f (z ∷ xs) x y (inr h) k = has_second (f z) (flat_map f xs) y (has_flat f xs x y h k)

flat_cases : {X Y : Type 0} (f : X → List Y) (z : X) (xs : List X) (y : Y) → (Has y (flat_map f xs) → (x : X) × Has x xs × Has y (f x))
    → Has y (f z) ⊎ Has y (flat_map f xs) → (x : X) × Has x (z ∷ xs) × Has y (f x)
flat_cases f z xs y g (inl h) = (z, inl refl, h)
flat_cases f z xs y g (inr h) = let r = g h in (r.0, inr r.1, r.2)

pub flat_has : {X Y : Type 0} (f : X → List Y) (xs : List X) (y : Y) → Has y (flat_map f xs) → (x : X) × Has x xs × Has y (f x)
flat_has f [] y h = absurd h
flat_has f (z ∷ xs) y h = flat_cases f z xs y (flat_has f xs y) (append_has (f z) (flat_map f xs) y h)

some_kept : {Y : Type 0} (o : Option Y) (y : Y) (ys : List Y) → o ≡ Some y → Has y (cons_option o ys)
some_kept None y ys e = absurd (cc)
some_kept (Some x) y ys e = inl (same_some e)

rest_kept : {Y : Type 0} (o : Option Y) (y : Y) (ys : List Y) → Has y ys → Has y (cons_option o ys)
rest_kept None y ys h = h
rest_kept (Some x) y ys h = inr h

pub has_filter_map : {X Y : Type 0} (f : X → Option Y) (xs : List X) (x : X) (y : Y) → Has x xs → f x ≡ Some y → Has y (filter_map f xs)
has_filter_map f [] x y h e = absurd h
has_filter_map f (z ∷ xs) x y (inl q) e = some_kept (f z) y (filter_map f xs) (ap f q ∙ e)
has_filter_map f (z ∷ xs) x y (inr h) e = rest_kept (f z) y (filter_map f xs) (has_filter_map f xs x y h e)

option_cases : {X Y : Type 0} (f : X → Option Y) (z : X) (xs : List X) (y : Y) (o : Option Y) → f z ≡ o → (Has y (filter_map f xs) → (x : X) × Has x xs × (f x ≡ Some y))
    → Has y (cons_option o (filter_map f xs)) → (x : X) × Has x (z ∷ xs) × (f x ≡ Some y)
option_cases f z xs y None e g h = let r = g h in (r.0, inr r.1, r.2)
option_cases f z xs y (Some w) e g (inl q) = (z, inl refl, e ∙ ap (λ v. Some v) q)
option_cases f z xs y (Some w) e g (inr h) = let r = g h in (r.0, inr r.1, r.2)

pub filter_map_has : {X Y : Type 0} (f : X → Option Y) (xs : List X) (y : Y) → Has y (filter_map f xs) → (x : X) × Has x xs × (f x ≡ Some y)
filter_map_has f [] y h = absurd h
filter_map_has f (z ∷ xs) y h = option_cases f z xs y (f z) refl (filter_map_has f xs y) h

-- ---- places

pub got_has : {X : Type 0} (xs : List X) (i : ℕ) (x : X) → slice_get xs i ≡ Some x → Has x xs
got_has [] i x e = absurd (cc)
got_has (y ∷ ys) zero x e = inl (same_some e)
got_has (y ∷ ys) (suc i) x e = inr (got_has ys i x e)

pub numbered_has : {X : Type 0} (k : ℕ) (xs : List X) (e : ℕ × X) → Has e (enumerate_from k xs) → (i : ℕ) × (slice_get xs i ≡ Some e.1) × (e.0 ≡ k + i)
numbered_has k [] e h = absurd h
numbered_has k (x ∷ xs) e (inl q) = (0, ap (λ z. Some z.1) q, sym (ap (λ z. z.0) q) ∙ omega arith)
numbered_has k (x ∷ xs) e (inr h) =
    let r = numbered_has (k + 1) xs e h in
    (suc r.0, r.1, omega arith)

pub has_numbered : {X : Type 0} (k i n : ℕ) (xs : List X) (x : X) → slice_get xs i ≡ Some x → n ≡ k + i → Has (n, x) (enumerate_from k xs)
has_numbered k i n [] x e f = absurd (cc)
has_numbered k zero n (y ∷ ys) x e f = let m : k ≡ n = omega arith in inl (λ j. (m j, same_some e j))
has_numbered k (suc i) n (y ∷ ys) x e f = inr (has_numbered (k + 1) i n ys x e (omega arith))

-- ---- some member passes a test

pub has_any : {X : Type 0} (test : X → Bool) (xs : List X) (x : X) → Has x xs → test x ≡ true → list_any test xs ≡ true
has_any test [] x h e = absurd h
has_any test (y ∷ ys) x (inl q) e = or_first (test y) (list_any test ys) (ap test q ∙ e)
has_any test (y ∷ ys) x (inr h) e = or_second (test y) (list_any test ys) (has_any test ys x h e)

any_cases : {X : Type 0} (test : X → Bool) (y : X) (ys : List X) → (list_any test ys ≡ true → (x : X) × Has x ys × (test x ≡ true)) → (test y ≡ true) ⊎ (list_any test ys ≡ true)
    → (x : X) × Has x (y ∷ ys) × (test x ≡ true)
any_cases test y ys g (inl e) = (y, inl refl, e)
any_cases test y ys g (inr e) = let r = g e in (r.0, inr r.1, r.2)

pub any_has : {X : Type 0} (test : X → Bool) (xs : List X) → list_any test xs ≡ true → (x : X) × Has x xs × (test x ≡ true)
any_has test [] e = absurd (cc)
any_has test (y ∷ ys) e = any_cases test y ys (any_has test ys) (either_true (test y) (list_any test ys) e)
