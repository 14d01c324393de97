-- Rows in the order of their primary keys.
use Rattle.std.proofs.Common.{◌≡◌, Bool, true, false, List, [], ◌∷◌, refl, sym, ap₂, ◌∙◌, subst, inl, inr}
use Rattle.std.specs.Prelude.{◌≢◌, if◌then◌else◌}
use Rattle.std.specs.Cmp.{tied_itself}
use Rattle.std.specs.List.{AllByRecursion}
use Rattle.std.specs.Ordering.{is_lt, ordering_reverse}
use Rattle.std.specs.declared.cmp.Ordering.{Ordering}
use Rattle.std.specs.declared.cmp.Ordering.TheVariants.{Less, Equal, Greater}
use Rattle.mr_base.specs.declared.rows.Datum.{Datum}
use Rattle.descriptors.specs.declared.table.Table.{Table}
use Rattle.row_locality.specs.Rows.{row_cmp}
use Rattle.row_locality.proofs.DatumOrder.{row_cmp_total}
use Rattle.sql_eval.specs.Execution.{with_row, rows_in_order}
use Rattle.answer_laws.proofs.Lists.{each_weaker}
use Rattle.answer_laws.proofs.Members.{Has, each_has}
use Rattle.answer_laws.proofs.Pairwise.{EachTwo}

abbrev pub Row : Type 0
Row = List Datum

-- ---- members

-- what holds of a row and of others holds of all with it in its place
each_placed : (P : Row → Type 0) (b : Bool) (row r : Row) (rs more : List Row) → P row → P r → AllByRecursion P rs → AllByRecursion P more
    → AllByRecursion P (if b then row ∷ r ∷ rs else r ∷ more)
each_placed P true row r rs more h k m n = (h, (k, m))
each_placed P false row r rs more h k m n = (k, n)

pub each_with : (P : Row → Type 0) (t : Table) (row : Row) (rs : List Row) → P row → AllByRecursion P rs → AllByRecursion P (with_row t row rs)
each_with P t row [] h k = (h, tt)
each_with P t row (r ∷ rs) h k = each_placed P (is_lt (row_cmp t row r)) row r rs (with_row t row rs) h k.0 k.1 (each_with P t row rs h k.1)

pub each_ordered : (P : Row → Type 0) (t : Table) (rows : List Row) → AllByRecursion P rows → AllByRecursion P (rows_in_order t rows)
each_ordered P t [] h = tt
each_ordered P t (row ∷ rows) h = each_with P t row (rows_in_order t rows) h.0 (each_ordered P t rows h.1)

-- ---- each two

two_placed : (R : Row → Row → Type 0) (b : Bool) (row r : Row) (rs more : List Row) → R row r → AllByRecursion (R row) rs → AllByRecursion (R r) rs → EachTwo R rs
    → AllByRecursion (R r) more → EachTwo R more → EachTwo R (if b then row ∷ r ∷ rs else r ∷ more)
two_placed R true row r rs more h k m n p q = ((h, k), (m, n))
two_placed R false row r rs more h k m n p q = (p, q)

-- a relation that has no direction stays between each two
two_with : (R : Row → Row → Type 0) → ((a b : Row) → R a b → R b a) → (t : Table) (row : Row) (rs : List Row) → AllByRecursion (R row) rs → EachTwo R rs
    → EachTwo R (with_row t row rs)
two_with R flip t row [] h k = (tt, tt)
two_with R flip t row (r ∷ rs) h k =
    two_placed R (is_lt (row_cmp t row r)) row r rs (with_row t row rs) h.0 h.1 k.0 k.1
    (each_with (R r) t row rs (flip row r h.0) k.0) (two_with R flip t row rs h.1 k.1)

pub two_ordered : (R : Row → Row → Type 0) → ((a b : Row) → R a b → R b a) → (t : Table) (rows : List Row) → EachTwo R rows → EachTwo R (rows_in_order t rows)
two_ordered R flip t [] h = tt
two_ordered R flip t (row ∷ rows) h =
    two_with R flip t row (rows_in_order t rows) (each_ordered (R row) t rows h.0) (two_ordered R flip t rows h.1)

-- ---- rising

abbrev pub IsBelow : Table → Row → Row → Type 0
IsBelow t a b = row_cmp t a b ≡ Less

abbrev pub IsUntied : Table → Row → Row → Type 0
IsUntied t a b = row_cmp t a b ≢ Equal

below_by : (o : Ordering) → is_lt o ≡ true → o ≡ Less
below_by Less e = refl
below_by Equal e = absurd (cc)
below_by Greater e = absurd (cc)

above_by : (o p : Ordering) → p ≡ ordering_reverse o → is_lt o ≡ false → o ≢ Equal → p ≡ Less
above_by Less p f e h = absurd (cc)
above_by Equal p f e h = absurd (h refl)
above_by Greater p f e h = f

rising_placed : (t : Table) (b : Bool) (row r : Row) (rs : List Row) → is_lt (row_cmp t row r) ≡ b → IsUntied t row r → AllByRecursion (IsBelow t r) rs
    → EachTwo (IsBelow t) rs → EachTwo (IsBelow t) (with_row t row rs) → EachTwo (IsBelow t) (if b then row ∷ r ∷ rs else r ∷ with_row t row rs)
rising_placed t true row r rs e u h k m =
    let below : row_cmp t row r ≡ Less = below_by (row_cmp t row r) e in
    ((below, each_weaker (IsBelow t r) (IsBelow t row) (λ x l. (row_cmp_total t).trans row r x below l) rs h), (h, k))
rising_placed t false row r rs e u h k m =
    let below : row_cmp t r row ≡ Less = above_by (row_cmp t row r) (row_cmp t r row) ((row_cmp_total t).antisymm r row) e u in
    (each_with (IsBelow t r) t row rs below h, m)

rising_with : (t : Table) (row : Row) (rs : List Row) → AllByRecursion (IsUntied t row) rs → EachTwo (IsBelow t) rs → EachTwo (IsBelow t) (with_row t row rs)
rising_with t row [] u h = (tt, tt)
rising_with t row (r ∷ rs) u h =
    rising_placed t (is_lt (row_cmp t row r)) row r rs refl u.0 h.0 h.1 (rising_with t row rs u.1 h.1)

-- rows of which no two tie stand in their order
pub rising_ordered : (t : Table) (rows : List Row) → EachTwo (IsUntied t) rows → EachTwo (IsBelow t) (rows_in_order t rows)
rising_ordered t [] h = tt
rising_ordered t (row ∷ rows) h =
    rising_with t row (rows_in_order t rows) (each_ordered (IsUntied t row) t rows h.0) (rising_ordered t rows h.1)

-- ---- rising lists with the same members are one

not_itself : (t : Table) (x : Row) (xs : List Row) → AllByRecursion (IsBelow t x) xs → Has x xs → ⊥
not_itself t x xs h k = absurd (cc (tied_itself (row_cmp_total t) x, each_has (IsBelow t x) x xs h k))

both_below : (t : Table) (x y : Row) → row_cmp t x y ≡ Less → row_cmp t y x ≡ Less → ⊥
both_below t x y p q = absurd (cc (tied_itself (row_cmp_total t) x, (row_cmp_total t).trans x y x p q))

same_first : (t : Table) (x y : Row) (xs ys : List Row) → AllByRecursion (IsBelow t x) xs → AllByRecursion (IsBelow t y) ys → Has x (y ∷ ys) → Has y (x ∷ xs) → x ≡ y
same_first t x y xs ys h k (inl e) n = sym e
same_first t x y xs ys h k (inr m) (inl e) = e
same_first t x y xs ys h k (inr m) (inr n) = absurd (both_below t x y (each_has (IsBelow t x) y xs h n) (each_has (IsBelow t y) x ys k m))

in_rest : (t : Table) (x y : Row) (xs ys : List Row) → x ≡ y → AllByRecursion (IsBelow t x) xs → (z : Row) → Has z xs → Has z (y ∷ ys) → Has z ys
in_rest t x y xs ys e h z k (inl f) = absurd (not_itself t x xs h (subst (λ w. Has w xs) (sym (e ∙ f)) k))
in_rest t x y xs ys e h z k (inr m) = m

pub same_rising : (t : Table) (xs ys : List Row) → EachTwo (IsBelow t) xs → EachTwo (IsBelow t) ys → ((z : Row) → Has z xs → Has z ys) → ((z : Row) → Has z ys → Has z xs) → xs ≡ ys
same_rising t [] [] h k f g = refl
same_rising t [] (y ∷ ys) h k f g = absurd (g y (inl refl))
same_rising t (x ∷ xs) [] h k f g = absurd (f x (inl refl))
same_rising t (x ∷ xs) (y ∷ ys) h k f g =
    let e : x ≡ y = same_first t x y xs ys h.0 k.0 (f x (inl refl)) (g y (inl refl)) in
    ap₂ (λ (z : Row) (zs : List Row). z ∷ zs) e
    (same_rising t xs ys h.1 k.1 (λ z m. in_rest t x y xs ys e h.0 z m (f z (inr m))) (λ z m. in_rest t y x ys xs (sym e) k.0 z m (g z (inr m))))
