-- The values of rows in columns, one after the other.
use Rattle.std.proofs.Common.{◌≡◌, ℕ, zero, suc, ◌+◌, ◌<◌, ◌≤◌, Bool, true, false, not, List, [], ◌∷◌, ◌++◌, length, drop, get_or, refl, sym, ap, ap₂, ◌∙◌, arith}
use Rattle.std.specs.Prelude.{Option, Some, None, slice_get}
use Rattle.std.specs.List.{cons_option}
use Rattle.std.specs.Ordering.{is_eq, eq_by_cmp, ordering_then}
use Rattle.std.specs.declared.cmp.Ordering.{Ordering}
use Rattle.std.specs.declared.cmp.Ordering.TheVariants.{Less, Equal, Greater}
use Rattle.std.proofs.lemmas.List.{append-nil, drop_more, drop_all}
use Rattle.std.proofs.lemmas.Option.{slice_get_within, get_or_from_slice_get}
use Rattle.mr_base.specs.declared.rows.Datum.{Datum}
use Rattle.row_locality.specs.Rows.{datum_cmp, key_cmp, values_at}

-- ---- places of lists

pub none_past : {X : Type 0} (xs : List X) (i : ℕ) → None ≡ slice_get xs i → length xs ≤ i
none_past [] i e = omega arith
none_past (x ∷ xs) zero e = absurd (cc)
none_past (x ∷ xs) (suc i) e = omega (arith, none_past xs i e)

none_left : {X : Type 0} (xs : List X) (i : ℕ) → None ≡ slice_get xs i → drop i xs ≡ []
none_left xs i e = drop_all i xs (none_past xs i e)

some_left : {X : Type 0} (xs : List X) (i : ℕ) (x : X) → Some x ≡ slice_get xs i → drop i xs ≡ x ∷ drop (i + 1) xs
some_left xs i x e = drop_more xs i x (slice_get_within xs i x (sym e)) ∙ ap (λ y. y ∷ drop (i + 1) xs) (get_or_from_slice_get xs i x x (sym e))

-- ---- values pushed

pub no_value : (place : ℕ) (row held : List Datum) → None ≡ slice_get row place → held ≡ held ++ values_at (place ∷ []) row
no_value place row held e = sym (append-nil held) ∙ ap (λ (o : Option Datum). held ++ cons_option o []) e

pub value_pushed : (place : ℕ) (row held after : List Datum) (v : Datum) → Some v ≡ slice_get row place → after ≡ held ++ v ∷ [] → after ≡ held ++ values_at (place ∷ []) row
value_pushed place row held after v e pushed = pushed ∙ ap (λ (o : Option Datum). held ++ cons_option o []) e

-- ---- the same values

abbrev pub same : List Datum → List Datum → Bool
same = eq_by_cmp key_cmp

then_other : (o q : Ordering) → not (is_eq o) ≡ true → is_eq (ordering_then o q) ≡ false
then_other Less q e = refl
then_other Equal q e = absurd (cc)
then_other Greater q e = refl

then_same : (o q : Ordering) → not (is_eq o) ≡ false → is_eq (ordering_then o q) ≡ is_eq q
then_same Less q e = absurd (cc)
then_same Equal q e = refl
then_same Greater q e = absurd (cc)

first_left : (xs : List Datum) (i : ℕ) (v : Datum) → i < length xs → v ≡ get_or xs i v → drop i xs ≡ v ∷ drop (i + 1) xs
first_left xs i v h is = drop_more xs i v h ∙ ap (λ y. y ∷ drop (i + 1) xs) (sym is)

pub shorter : (xs ys : List Datum) (i : ℕ) (v : Datum) (total : Bool) → i < length xs → v ≡ get_or xs i v → None ≡ slice_get ys i → total ≡ same (drop i xs) (drop i ys) → false ≡ total
shorter xs ys i v total h is none so_far = sym (so_far ∙ ap₂ same (first_left xs i v h is) (none_left ys i none))

pub other : (xs ys : List Datum) (i : ℕ) (v w : Datum) (total : Bool) → i < length xs → v ≡ get_or xs i v → Some w ≡ slice_get ys i → not (eq_by_cmp datum_cmp v w) ≡ true
    → total ≡ same (drop i xs) (drop i ys) → false ≡ total
other xs ys i v w total h is some differs so_far =
    sym (so_far ∙ ap₂ same (first_left xs i v h is) (some_left ys i w some) ∙ then_other (datum_cmp v w) (key_cmp (drop (i + 1) xs) (drop (i + 1) ys)) differs)

pub same_so_far : (xs ys : List Datum) (i : ℕ) (v w : Datum) (total : Bool) → i < length xs → v ≡ get_or xs i v → Some w ≡ slice_get ys i → not (eq_by_cmp datum_cmp v w) ≡ false
    → total ≡ same (drop i xs) (drop i ys) → total ≡ same (drop (i + 1) xs) (drop (i + 1) ys)
same_so_far xs ys i v w total h is some equal so_far =
    so_far ∙ ap₂ same (first_left xs i v h is) (some_left ys i w some) ∙ then_same (datum_cmp v w) (key_cmp (drop (i + 1) xs) (drop (i + 1) ys)) equal

ends_with : (xs ys : List Datum) (i : ℕ) (total : Bool) → length xs ≤ i → i ≤ length xs → total ≡ same (drop i xs) (drop i ys) → total ≡ same [] (drop (length xs) ys)
ends_with xs ys i total past within so_far =
    let at : i ≡ length xs = omega arith in
    so_far ∙ ap₂ same (drop_all i xs past) (ap (λ (k : ℕ). drop k ys) at)

pub both_end : (xs ys : List Datum) (i : ℕ) (total : Bool) → length xs ≤ i → i ≤ length xs → None ≡ slice_get ys (length xs) → total ≡ same (drop i xs) (drop i ys) → true ≡ total
both_end xs ys i total past within none so_far = sym (ends_with xs ys i total past within so_far ∙ ap (same []) (none_left ys (length xs) none))

pub longer : (xs ys : List Datum) (i : ℕ) (w : Datum) (total : Bool) → length xs ≤ i → i ≤ length xs → Some w ≡ slice_get ys (length xs) → total ≡ same (drop i xs) (drop i ys) → false ≡ total
longer xs ys i w total past within some so_far = sym (ends_with xs ys i total past within so_far ∙ ap (same []) (some_left ys (length xs) w some))
