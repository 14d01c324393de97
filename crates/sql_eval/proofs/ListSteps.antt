-- Steps of loops over lists.
use Rattle.std.proofs.Common.{◌≡◌, ℕ, ◌+◌, ◌<◌, ◌≤◌, not, drop, Bool, List, [], ◌∷◌, ◌++◌, Option, Some, None, length, take, get_or, refl, sym, ap, ◌∙◌, slice_get, cond, position, arith, zero, suc, add-zero, zero-add}
use Rattle.std.specs.List.{filter_map, prefix_len, cons_option, position_or_len, enumerate_from}
use Rattle.std.specs.Option.{option_to_list, option_map}
use Rattle.std.proofs.lemmas.Grind.{common_steps}
use Rattle.std.proofs.lemmas.Bool.Decides.{nat_tests}
use Rattle.std.proofs.lemmas.List.{take_all, take_more, length-take}
use Rattle.std.proofs.lemmas.List.Elements.{filter_map-append}
use Rattle.std.proofs.lemmas.List.Folds.{length-prefix_len, position_or_len_push}
use Rattle.std.proofs.lemmas.Option.{get_or_from_slice_get, slice_get_read, slice_get_within}
use Rattle.std.proofs.lemmas.List.{at_drop_more}
use Rattle.mr_base.specs.declared.rows.Datum.{Datum}
use Rattle.row_locality.specs.Rows.{values_at}

filter_map-one : {X Y : Type 0} (h : X → Option Y) (x : X) → filter_map h (x ∷ []) ≡ option_to_list (h x)
filter_map-one h x = elim (h x) as (λ o. cons_option o [] ≡ option_to_list o) [ None ↦ refl | Some y ↦ refl ]

take_next : {X : Type 0} (xs : List X) (i : ℕ) (x : X) → slice_get xs i ≡ Some x → take (i + 1) xs ≡ take i xs ++ x ∷ []
take_next xs i x e = take_more xs i x (slice_get_within xs i x e) ∙ ap (λ y. take i xs ++ y ∷ []) (get_or_from_slice_get xs i x x e)

-- One more item read, which gives a value or none.
pub filter_map_more : {X Y : Type 0} (h : X → Option Y) (xs : List X) (i : ℕ) (x : X) (held : List Y) (o : Option Y) → slice_get xs i ≡ Some x → h x ≡ o → held ≡ filter_map h (take i xs) → held ++ option_to_list o ≡ filter_map h (take (i + 1) xs)
filter_map_more h xs i x held o at e f =
    sym (ap (filter_map h) (take_next xs i x at) ∙ filter_map-append h (take i xs) (x ∷ []) ∙ ap (λ l. filter_map h (take i xs) ++ l) (filter_map-one h x ∙ ap option_to_list e) ∙ ap (λ l. l ++ option_to_list o) (sym f))

-- The same of an item of a loop over the list.
pub filter_map_item : {X Y : Type 0} (h : X → Option Y) (xs : List X) (i : ℕ) (x given : X) (held : List Y) (o : Option Y) → i < length xs → x ≡ get_or xs i x → given ≡ x → h given ≡ o → held ≡ filter_map h (take i xs) → held ++ option_to_list o ≡ filter_map h (take (i + 1) xs)
filter_map_item h xs i x given held o lt at same e f = filter_map_more h xs i x held o (slice_get_read xs (length xs) i x refl lt at) (ap h (sym same) ∙ e) f

pub position_none : {X : Type 0} (p : X → Bool) (xs : List X) → position p xs ≡ None → position_or_len p xs ≡ length xs
position_none p xs e =
    let bound : prefix_len (λ x. not (p x)) xs ≤ length xs = omega (arith, length-prefix_len (λ x. not (p x)) xs, length-take (prefix_len (λ x. not (p x)) xs) xs) in
    grind (arith, common_steps, nat_tests)

pub position_push : {X : Type 0} (p : X → Bool) (xs : List X) (y : X) → position p xs ≡ None → position p (xs ++ y ∷ []) ≡ cond (p y) (Some (length xs)) None
position_push p xs y e = let h = position_none p xs e in let g = position_or_len_push p xs y in grind (arith, common_steps, nat_tests)

pub position_first : {X : Type 0} (p : X → Bool) (xs : List X) (y : X) (i : ℕ) → position p xs ≡ Some i → position p (xs ++ y ∷ []) ≡ Some i
position_first p xs y i e = let g = position_or_len_push p xs y in grind (arith, common_steps, nat_tests)

pub enumerate_at : {X : Type 0} (n : ℕ) (xs : List X) (i : ℕ) → slice_get (enumerate_from n xs) i ≡ option_map (λ x. (n + i, x)) (slice_get xs i)
enumerate_at n [] i = refl
enumerate_at n (x ∷ xs) zero = ap (λ k. Some (k, x)) (sym (add-zero n))
enumerate_at n (x ∷ xs) (suc i) = enumerate_at (n + 1) xs i ∙ ap (λ k. option_map (λ x. (k, x)) (slice_get xs i)) (omega arith)

pub numbered_at : {X : Type 0} (xs : List X) (i : ℕ) (x : X) → slice_get xs i ≡ Some x → slice_get (enumerate_from 0 xs) i ≡ Some (i, x)
numbered_at xs i x e = enumerate_at 0 xs i ∙ ap (option_map (λ x. (0 + i, x))) e ∙ ap (λ k. Some (k, x)) (zero-add i)

length_numbered : {X : Type 0} (n : ℕ) (xs : List X) → length (enumerate_from n xs) ≡ length xs
length_numbered n [] = refl
length_numbered n (x ∷ xs) = ap suc (length_numbered (n + 1) xs)

pub numbered_all : {X : Type 0} (xs : List X) (i : ℕ) → length xs ≤ i → take i (enumerate_from 0 xs) ≡ enumerate_from 0 xs
numbered_all xs i le = take_all i (enumerate_from 0 xs) (omega (arith, length_numbered 0 xs))

-- The values of a row in the columns that are left, one column on.
pub values_some : (row : List Datum) (places : List ℕ) (i : ℕ) (v : Datum) → i < length places → slice_get row (get_or places i 0) ≡ Some v → values_at (drop i places) row ≡ v ∷ values_at (drop (i + 1) places) row
values_some row places i v lt e = at_drop_more (λ ps. values_at ps row) places i 0 lt ∙ ap (λ o. cons_option o (values_at (drop (i + 1) places) row)) e

pub values_none : (row : List Datum) (places : List ℕ) (i : ℕ) → i < length places → slice_get row (get_or places i 0) ≡ None → values_at (drop i places) row ≡ values_at (drop (i + 1) places) row
values_none row places i lt e = at_drop_more (λ ps. values_at ps row) places i 0 lt ∙ ap (λ o. cons_option o (values_at (drop (i + 1) places) row)) e

-- Past the end of a list there is nothing, and only there.
pub none_past : {X : Type 0} (xs : List X) (i : ℕ) → slice_get xs i ≡ None → length xs ≤ i
none_past [] i e = omega arith
none_past (z ∷ zs) zero e = cc
none_past (z ∷ zs) (suc i) e = let h = none_past zs i e in omega arith
