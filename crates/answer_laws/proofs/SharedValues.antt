-- Twins: rows that share a value of an index, in one list and across two.
use Rattle.std.proofs.Common.{◌≡◌, ℕ, suc, true, List, [], ◌∷◌, ◌++◌, refl, sym, ap, subst, inl, inr}
use Rattle.std.specs.Prelude.{◌⊎◌, slice_get, Some}
use Rattle.std.specs.Cmp.{Equal-is, tied_itself}
use Rattle.std.specs.List.{list_any}
use Rattle.std.specs.declared.cmp.Ordering.TheVariants.{Equal}
use Rattle.mr_base.specs.declared.rows.Datum.{Datum}
use Rattle.descriptors.specs.declared.table.Table.{Table}
use Rattle.row_locality.specs.Plain.{AreApart}
use Rattle.row_locality.specs.Rows.{are_equal_in, indexes, key_cmp, values_at}
use Rattle.row_locality.proofs.DatumOrder.{key_cmp_exact, key_cmp_total}
use Rattle.sql_eval.specs.RowWords.{are_twins, has_twins}
use Rattle.answer_laws.proofs.Members.{Has, each_has}
use Rattle.answer_laws.proofs.MoreMembers.{false_true, got_has, has_second, append_has, has_any, any_has, either_true, or_first, or_second}
use Rattle.answer_laws.proofs.Pairwise.{EachTwo}
use Rattle.answer_laws.proofs.RowOrder.{Row}
use Rattle.answer_laws.proofs.TablePairs.{apart_in}

-- ---- values of an index

pub equal_values : (a b : Row) (places : List ℕ) → are_equal_in a b places ≡ true → values_at places a ≡ values_at places b
equal_values a b places e =
    key_cmp_exact (values_at places a) (values_at places b) ((Equal-is (key_cmp (values_at places a) (values_at places b))).0 e)

pub values_equal : (a b : Row) (places : List ℕ) → values_at places a ≡ values_at places b → are_equal_in a b places ≡ true
values_equal a b places e =
    (Equal-is (key_cmp (values_at places a) (values_at places b))).1
    (subst (λ (v : List Datum). key_cmp (values_at places a) v ≡ Equal) e (tied_itself key_cmp_total (values_at places a)))

-- two rows have the same values in an index
pub record Shares (t : Table) (a b : Row) : Type 0 where
  pub number : ℕ
  pub places : List ℕ
  pub index : slice_get (indexes t) number ≡ Some places
  pub values : values_at places a ≡ values_at places b

pub has_place : {X : Type 0} (xs : List X) (x : X) → Has x xs → (i : ℕ) × (slice_get xs i ≡ Some x)
has_place [] x h = absurd h
has_place (y ∷ ys) x (inl e) = (0, ap (λ z. Some z) e)
has_place (y ∷ ys) x (inr h) = let r = has_place ys x h in (suc r.0, r.1)

pub twins_share : (t : Table) (a b : Row) → are_twins t a b ≡ true → Shares t a b
twins_share t a b e =
    let r = any_has (are_equal_in a b) (indexes t) e in
    let k = has_place (indexes t) r.0 r.1 in
    record { number = k.0; places = r.0; index = k.1; values = equal_values a b r.0 r.2 }

pub share_twins : (t : Table) (a b : Row) → Shares t a b → are_twins t a b ≡ true
share_twins t a b s = has_any (are_equal_in a b) (indexes t) s.places (got_has (indexes t) s.number s.places s.index) (values_equal a b s.places s.values)

-- ---- twins of a list

pub record Cross (t : Table) (xs ys : List Row) : Type 0 where
  pub first : Row
  pub second : Row
  pub in_first : Has first xs
  pub in_second : Has second ys
  pub shares : Shares t first second

one_more : (t : Table) (x : Row) (xs ys : List Row) → Cross t xs ys → Cross t (x ∷ xs) ys
one_more t x xs ys c = record { first = c.first; second = c.second; in_first = inr c.in_first; in_second = c.in_second; shares = c.shares }

head_twins : (t : Table) (x z : Row) (xs ys : List Row) → are_twins t x z ≡ true → Has z xs ⊎ Has z ys → (has_twins t (x ∷ xs) ≡ true) ⊎ (Cross t (x ∷ xs) ys)
unfolding has_twins
head_twins t x z xs ys e (inl h) = inl (or_first (list_any (are_twins t x) xs) (has_twins t xs) (has_any (are_twins t x) xs z h e))
head_twins t x z xs ys e (inr h) = inr (record { first = x; second = z; in_first = inl refl; in_second = h; shares = twins_share t x z e })

abbrev Twins : Table → List Row → List Row → Type 0
Twins t xs ys = (has_twins t xs ≡ true) ⊎ (Cross t xs ys ⊎ (has_twins t ys ≡ true))

tail_twins : (t : Table) (x : Row) (xs ys : List Row) → Twins t xs ys → Twins t (x ∷ xs) ys
unfolding has_twins
tail_twins t x xs ys (inl e) = inl (or_second (list_any (are_twins t x) xs) (has_twins t xs) e)
tail_twins t x xs ys (inr (inl c)) = inr (inl (one_more t x xs ys c))
tail_twins t x xs ys (inr (inr e)) = inr (inr e)

grown : (t : Table) (x : Row) (xs ys : List Row) → (has_twins t (x ∷ xs) ≡ true) ⊎ (Cross t (x ∷ xs) ys) → Twins t (x ∷ xs) ys
grown t x xs ys (inl e) = inl e
grown t x xs ys (inr c) = inr (inl c)

cases : (t : Table) (x : Row) (xs ys : List Row) → (has_twins t (xs ++ ys) ≡ true → Twins t xs ys) → (list_any (are_twins t x) (xs ++ ys) ≡ true) ⊎ (has_twins t (xs ++ ys) ≡ true)
    → Twins t (x ∷ xs) ys
cases t x xs ys f (inl e) =
    let r = any_has (are_twins t x) (xs ++ ys) e in
    grown t x xs ys (head_twins t x r.0 xs ys r.2 (append_has xs ys r.0 r.1))
cases t x xs ys f (inr e) = tail_twins t x xs ys (f e)

-- twins of an append are in one of its lists, or across both
pub append_twins : (t : Table) (xs ys : List Row) → has_twins t (xs ++ ys) ≡ true → Twins t xs ys
unfolding has_twins
append_twins t [] ys e = inr (inr e)
append_twins t (x ∷ xs) ys e = cases t x xs ys (append_twins t xs ys) (either_true (list_any (are_twins t x) (xs ++ ys)) (has_twins t (xs ++ ys)) e)

pub later_twins : (t : Table) (xs ys : List Row) → has_twins t ys ≡ true → has_twins t (xs ++ ys) ≡ true
unfolding has_twins
later_twins t [] ys e = e
later_twins t (x ∷ xs) ys e = or_second (list_any (are_twins t x) (xs ++ ys)) (has_twins t (xs ++ ys)) (later_twins t xs ys e)

across : (t : Table) (xs ys : List Row) (a b : Row) → Has a xs → Has b ys → are_twins t a b ≡ true → has_twins t (xs ++ ys) ≡ true
unfolding has_twins
across t [] ys a b h k e = absurd h
across t (x ∷ xs) ys a b (inl q) k e =
    or_first (list_any (are_twins t x) (xs ++ ys)) (has_twins t (xs ++ ys))
    (has_any (are_twins t x) (xs ++ ys) b (has_second xs ys b k) (subst (λ (z : Row). are_twins t z b ≡ true) (sym q) e))
across t (x ∷ xs) ys a b (inr h) k e = or_second (list_any (are_twins t x) (xs ++ ys)) (has_twins t (xs ++ ys)) (across t xs ys a b h k e)

pub cross_twins : (t : Table) (xs ys : List Row) → Cross t xs ys → has_twins t (xs ++ ys) ≡ true
cross_twins t xs ys c = across t xs ys c.first c.second c.in_first c.in_second (share_twins t c.first c.second c.shares)

-- rows that are apart have no twins
no_twins_by : (t : Table) (x : Row) (xs : List Row) → EachTwo (AreApart t) (x ∷ xs) → (list_any (are_twins t x) xs ≡ true) ⊎ (has_twins t xs ≡ true)
    → (has_twins t xs ≡ true → ⊥) → ⊥
no_twins_by t x xs two (inl e) f =
    let r = any_has (are_twins t x) xs e in
    let s = twins_share t x r.0 r.2 in
    apart_in t x r.0 s.number s.places (each_has (AreApart t x) r.0 xs two.0 r.1) s.index s.values
no_twins_by t x xs two (inr e) f = f e

pub no_twins : (t : Table) (xs : List Row) → EachTwo (AreApart t) xs → has_twins t xs ≡ true → ⊥
unfolding has_twins
no_twins t [] two e = false_true e
no_twins t (x ∷ xs) two e = no_twins_by t x xs two (either_true (list_any (are_twins t x) xs) (has_twins t xs) e) (no_twins t xs two.1)
