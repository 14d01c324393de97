-- Rows that may not stand side by side, and tables of rows that may.
use Rattle.std.proofs.Common.{◌≡◌, ℕ, Bool, true, false, List, [], ◌∷◌, refl, sym, subst}
use Rattle.std.specs.Prelude.{◌≢◌, ◌||◌, filter}
use Rattle.std.specs.Cmp.{Equal-is, tied_itself}
use Rattle.std.specs.List.{AllByRecursion, list_any}
use Rattle.std.specs.Ordering.{is_eq}
use Rattle.std.specs.declared.cmp.Ordering.TheVariants.{Equal}
use Rattle.std.proofs.lemmas.List.Elements.{All-from_recursion, All-head, All-weaker, All-filter}
use Rattle.mr_base.specs.declared.rows.Datum.{Datum}
use Rattle.descriptors.specs.Contents.{Contents}
use Rattle.descriptors.specs.declared.table.Table.{Table}
use Rattle.row_locality.specs.Plain.{AreApart, AreRowsOf, IsRowOf}
use Rattle.row_locality.specs.Rows.{are_equal_in, indexes, key_cmp, key_of, values_at}
use Rattle.row_locality.proofs.DatumOrder.{key_cmp_exact, key_cmp_total}
use Rattle.sql_eval.specs.Execution.{rows_in_order}
use Rattle.sql_eval.specs.RowWords.{are_twins, has_twins}
use Rattle.answer_laws.proofs.Lists.{each_weaker}
use Rattle.answer_laws.proofs.Pairwise.{EachTwo, each_two, all_pairs, two_filter}
use Rattle.answer_laws.proofs.RowOrder.{Row, IsBelow, IsUntied, each_ordered, two_ordered, rising_ordered}

neither : (a b : Bool) → (a || b) ≡ false → (a ≡ false) × (b ≡ false)
neither true b e = absurd (cc)
neither false b e = (refl, e)

none_passes : {X : Type 0} (test : X → Bool) (xs : List X) → list_any test xs ≡ false → AllByRecursion (λ x. test x ≡ false) xs
none_passes test [] e = tt
none_passes test (x ∷ xs) e = ((neither (test x) (list_any test xs) e).0, none_passes test xs (neither (test x) (list_any test xs) e).1)

-- ---- twins

differ : (a b : Row) (places : List ℕ) → are_equal_in a b places ≡ false → values_at places a ≢ values_at places b
differ a b places e f =
    let same : is_eq (key_cmp (values_at places a) (values_at places b)) ≡ true = (Equal-is (key_cmp (values_at places a) (values_at places b))).1 (tied (values_at places a) (values_at places b) f) in
    absurd (cc (e, same))
  where
    tied : (x y : List Datum) → x ≡ y → key_cmp x y ≡ Equal
    tied x y g = subst (λ z. key_cmp x z ≡ Equal) g (tied_itself key_cmp_total x)

apart_of : (t : Table) (a b : Row) → are_twins t a b ≡ false → AreApart t a b
apart_of t a b e =
    All-from_recursion (λ places. values_at places a ≢ values_at places b) (indexes t)
    (each_weaker (λ places. are_equal_in a b places ≡ false) (λ places. values_at places a ≢ values_at places b) (λ places f. differ a b places f) (indexes t)
    (none_passes (are_equal_in a b) (indexes t) e))

pub apart_each : (t : Table) (rows : List Row) → has_twins t rows ≡ false → EachTwo (AreApart t) rows
unfolding has_twins
apart_each t [] e = tt
apart_each t (row ∷ rows) e =
    let r : (list_any (are_twins t row) rows ≡ false) × (has_twins t rows ≡ false) = neither (list_any (are_twins t row) rows) (has_twins t rows) e in
    (each_weaker (λ x. are_twins t row x ≡ false) (AreApart t row) (λ x f. apart_of t row x f) rows (none_passes (are_twins t row) rows r.0), apart_each t rows r.1)

pub apart_flip : (t : Table) (a b : Row) → AreApart t a b → AreApart t b a
apart_flip t a b h = All-weaker (λ places. values_at places a ≢ values_at places b) (λ places. values_at places b ≢ values_at places a) (λ places f e. f (sym e)) (indexes t) h

-- rows that are apart don't tie
pub apart_untied : (t : Table) (a b : Row) → AreApart t a b → IsUntied t a b
apart_untied t a b h e = All-head (λ places. values_at places a ≢ values_at places b) t.key _ h (key_cmp_exact (key_of t a) (key_of t b) e)

two_weaker : {X : Type 0} (R S : X → X → Type 0) → ((x y : X) → R x y → S x y) → (xs : List X) → EachTwo R xs → EachTwo S xs
two_weaker R S f [] h = tt
two_weaker R S f (x ∷ xs) h = (each_weaker (R x) (S x) (λ y k. f x y k) xs h.0, two_weaker R S f xs h.1)

-- ---- tables

-- rows without twins, each of which a table may hold, are a table in their order
pub ordered_table : (c : Contents) (t : Table) (rows : List Row) → has_twins t rows ≡ false → AllByRecursion (IsRowOf c t) rows → AreRowsOf c t (rows_in_order t rows)
ordered_table c t rows e h =
    let apart : EachTwo (AreApart t) rows = apart_each t rows e in
    record {
      each = All-from_recursion (IsRowOf c t) (rows_in_order t rows) (each_ordered (IsRowOf c t) t rows h);
      rising = all_pairs (IsBelow t) (rows_in_order t rows) (rising_ordered t rows (two_weaker (AreApart t) (IsUntied t) (apart_untied t) rows apart));
      apart = all_pairs (AreApart t) (rows_in_order t rows) (two_ordered (AreApart t) (apart_flip t) t rows apart);
    }

-- what a test leaves of a table is one
pub filtered_table : (c : Contents) (t : Table) (test : Row → Bool) (rows : List Row) → AreRowsOf c t rows → AreRowsOf c t (filter test rows)
filtered_table c t test rows h = record {
  each = All-filter test (IsRowOf c t) rows h.each;
  rising = all_pairs (IsBelow t) (filter test rows) (two_filter (IsBelow t) test rows (each_two (IsBelow t) rows h.rising));
  apart = all_pairs (AreApart t) (filter test rows) (two_filter (AreApart t) test rows (each_two (AreApart t) rows h.apart));
}
