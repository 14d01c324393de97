-- A table of the rows that stay and of those that come, in the order of their keys.
use Rattle.std.proofs.Common.{◌≡◌, Bool, true, false, List, [], ◌∷◌, ◌++◌, refl, ap, subst, inl, inr}
use Rattle.std.specs.Prelude.{◌⊎◌, not, if◌then◌else◌, filter}
use Rattle.std.specs.List.{AllByRecursion}
use Rattle.std.specs.Ordering.{is_lt}
use Rattle.descriptors.specs.declared.table.Table.{Table}
use Rattle.region_sql.specs.declared.row_statements.Term.{Term}
use Rattle.row_locality.specs.Plain.{Layout, PlainDatabase, IsValid, IsRowOf, AreApart, AreRowsOf}
use Rattle.row_locality.specs.Rows.{row_cmp}
use Rattle.sql_eval.specs.Execution.{Named, rows_in_order, with_row}
use Rattle.sql_eval.specs.RowWords.{has_twins, matches}
use Rattle.answer_laws.proofs.Effects.{AreReplaced}
use Rattle.answer_laws.proofs.HeldPairs.{row_is, rows_apart}
use Rattle.answer_laws.proofs.KeepsValid.{IsNamed, with_rows_valid}
use Rattle.answer_laws.proofs.Lists.{each_append}
use Rattle.answer_laws.proofs.Members.{Has, each_has, has_filter, filter_has}
use Rattle.answer_laws.proofs.MoreMembers.{append_has, has_first, has_second, not_both}
use Rattle.answer_laws.proofs.Pairwise.{EachTwo, two_filter}
use Rattle.answer_laws.proofs.RowOrder.{Row, each_ordered}
use Rattle.answer_laws.proofs.RowWrites.{each_from}
use Rattle.answer_laws.proofs.Twins.{apart_each, ordered_table, filtered_table}

-- ---- rows in order

ordered_has : (t : Table) (rows : List Row) (r : Row) → Has r (rows_in_order t rows) → Has r rows
ordered_has t rows r h = each_has (λ x. Has x rows) r (rows_in_order t rows) (each_ordered (λ x. Has x rows) t rows (each_from (λ x. Has x rows) rows (λ x m. m))) h

placed : (b : Bool) (row r x : Row) (rs more : List Row) → (Has x rs → Has x more) → Has row more → Has x (row ∷ r ∷ rs) → Has x (if b then row ∷ r ∷ rs else r ∷ more)
placed true row r x rs more f k h = h
placed false row r x rs more f k (inl e) = inr (subst (λ (z : Row). Has z more) e k)
placed false row r x rs more f k (inr (inl e)) = inl e
placed false row r x rs more f k (inr (inr h)) = inr (f h)

has_with : (t : Table) (row : Row) (rs : List Row) (x : Row) → Has x (row ∷ rs) → Has x (with_row t row rs)
has_with t row [] x h = h
has_with t row (r ∷ rs) x h =
    placed (is_lt (row_cmp t row r)) row r x rs (with_row t row rs) (λ m. has_with t row rs x (inr m)) (has_with t row rs row (inl refl)) h

has_ordered : (t : Table) (rows : List Row) (r : Row) → Has r rows → Has r (rows_in_order t rows)
has_ordered t [] r h = absurd h
has_ordered t (row ∷ rows) r (inl e) = has_with t row (rows_in_order t rows) r (inl e)
has_ordered t (row ∷ rows) r (inr h) = has_with t row (rows_in_order t rows) r (inr (has_ordered t rows r h))

-- ---- each two of an append

two_cross : {X : Type 0} (R : X → X → Type 0) (xs ys : List X) (x y : X) → EachTwo R (xs ++ ys) → Has x xs → Has y ys → R x y
two_cross R [] ys x y two h k = absurd h
two_cross R (z ∷ xs) ys x y two (inl e) k = subst (λ w. R w y) e (each_has (R z) y (xs ++ ys) two.0 (has_second xs ys y k))
two_cross R (z ∷ xs) ys x y two (inr h) k = two_cross R xs ys x y two.1 h k

two_second : {X : Type 0} (R : X → X → Type 0) (xs ys : List X) → EachTwo R (xs ++ ys) → EachTwo R ys
two_second R [] ys two = two
two_second R (z ∷ xs) ys two = two_second R xs ys two.1

-- ---- tables

module _ (l : Layout) (d : PlainDatabase) (n : Named) (valid : IsValid l.catalog d) (named : IsNamed l.catalog n) where
  is_row : (r : Row) → Has r (d n.place) → IsRowOf l.catalog n.table r
  is_row r h = row_is l d n.place n.table r valid named.at h

  -- the rows that stay and those that come have no twins
  pub reordered : (olds stay new : List Row) → ((r : Row) → Has r (d n.place) → Has r olds ⊎ Has r stay) → ((r : Row) → Has r olds → Has r (d n.place))
      → ((r : Row) → Has r stay → Has r (d n.place)) → ((r : Row) → Has r olds → Has r stay → ⊥) → EachTwo (AreApart n.table) olds
      → has_twins n.table (stay ++ new) ≡ false → ((m : Row) → Has m new → IsRowOf l.catalog n.table m)
      → AreReplaced l d n.place n.table olds stay new (rows_in_order n.table (stay ++ new))
  reordered olds stay new parts from_old from_stay apart two none rows =
      let each_two : EachTwo (AreApart n.table) (stay ++ new) = apart_each n.table (stay ++ new) none in
      let all_rows : AllByRecursion (IsRowOf l.catalog n.table) (stay ++ new) =
      each_append (IsRowOf l.catalog n.table) stay new (each_from (IsRowOf l.catalog n.table) stay (λ r m. is_row r (from_stay r m))) (each_from (IsRowOf l.catalog n.table) new rows) in
      let after : AreRowsOf l.catalog n.table (rows_in_order n.table (stay ++ new)) = ordered_table l.catalog n.table (stay ++ new) none all_rows in
      record {
        at = named.at;
        parts = parts;
        from_old = from_old;
        from_stay = from_stay;
        never_both = apart;
        olds_apart = two;
        new_apart = two_second (AreApart n.table) stay new each_two;
        cross = λ r m h k. two_cross (AreApart n.table) stay new r m each_two h k;
        new_rows = rows;
        after_has = λ r h. append_has stay new r (ordered_has n.table (stay ++ new) r h);
        has_stay = λ r h. has_ordered n.table (stay ++ new) r (has_first stay new r h);
        has_new = λ r h. has_ordered n.table (stay ++ new) r (has_second stay new r h);
        valid = with_rows_valid l.catalog d n (rows_in_order n.table (stay ++ new)) named after valid;
      }

  only_first : (xs : List Row) (r : Row) → Has r xs → Has r xs ⊎ Has r []
  only_first xs r h = inl h

  -- INSERT: all rows stay
  pub inserted : (new : List Row) → has_twins n.table (d n.place ++ new) ≡ false → ((m : Row) → Has m new → IsRowOf l.catalog n.table m)
      → AreReplaced l d n.place n.table [] (d n.place) new (rows_in_order n.table (d n.place ++ new))
  inserted new none rows = reordered [] (d n.place) new (λ r h. inr h) (λ r h. absurd h) (λ r h. h) (λ r h k. absurd h) tt none rows

  parts_by : (terms : List Term) (r : Row) (b : Bool) → matches n.table terms r ≡ b → Has r (d n.place)
      → Has r (filter (matches n.table terms) (d n.place)) ⊎ Has r (filter (λ row. not (matches n.table terms row)) (d n.place))
  parts_by terms r true e h = inl (has_filter (matches n.table terms) (d n.place) r h e)
  parts_by terms r false e h = inr (has_filter (λ row. not (matches n.table terms row)) (d n.place) r h (ap not e))

  split : (terms : List Term) (r : Row) → Has r (d n.place) → Has r (filter (matches n.table terms) (d n.place)) ⊎ Has r (filter (λ row. not (matches n.table terms row)) (d n.place))
  split terms r h = parts_by terms r (matches n.table terms r) refl h

  old_there : (terms : List Term) (r : Row) → Has r (filter (matches n.table terms) (d n.place)) → Has r (d n.place)
  old_there terms r h = (filter_has (matches n.table terms) (d n.place) r h).0

  stay_there : (terms : List Term) (r : Row) → Has r (filter (λ row. not (matches n.table terms row)) (d n.place)) → Has r (d n.place)
  stay_there terms r h = (filter_has (λ row. not (matches n.table terms row)) (d n.place) r h).0

  apart : (terms : List Term) (r : Row) → Has r (filter (matches n.table terms) (d n.place)) → Has r (filter (λ row. not (matches n.table terms row)) (d n.place)) → ⊥
  apart terms r h k =
      not_both (matches n.table terms r) (filter_has (matches n.table terms) (d n.place) r h).1 (filter_has (λ row. not (matches n.table terms row)) (d n.place) r k).1

  olds_apart : (terms : List Term) → EachTwo (AreApart n.table) (filter (matches n.table terms) (d n.place))
  olds_apart terms = two_filter (AreApart n.table) (matches n.table terms) (d n.place) (rows_apart l d n.place n.table valid named.at)

  -- UPDATE: the rows that match become others
  pub updated : (terms : List Term) (new : List Row) → has_twins n.table (filter (λ row. not (matches n.table terms row)) (d n.place) ++ new) ≡ false
      → ((m : Row) → Has m new → IsRowOf l.catalog n.table m)
      → AreReplaced l d n.place n.table (filter (matches n.table terms) (d n.place)) (filter (λ row. not (matches n.table terms row)) (d n.place)) new
      (rows_in_order n.table (filter (λ row. not (matches n.table terms row)) (d n.place) ++ new))
  updated terms new none rows =
      reordered (filter (matches n.table terms) (d n.place)) (filter (λ row. not (matches n.table terms row)) (d n.place)) new (split terms) (old_there terms) (stay_there terms)
      (apart terms) (olds_apart terms) none rows

  -- DELETE: the rows that match go
  pub deleted : (terms : List Term)
      → AreReplaced l d n.place n.table (filter (matches n.table terms) (d n.place)) (filter (λ row. not (matches n.table terms row)) (d n.place)) []
      (filter (λ row. not (matches n.table terms row)) (d n.place))
  deleted terms = record {
    at = named.at;
    parts = split terms;
    from_old = old_there terms;
    from_stay = stay_there terms;
    never_both = apart terms;
    olds_apart = olds_apart terms;
    new_apart = tt;
    cross = λ r m h k. absurd k;
    new_rows = λ m h. absurd h;
    after_has = only_first (filter (λ row. not (matches n.table terms row)) (d n.place));
    has_stay = λ r h. h;
    has_new = λ r h. absurd h;
    valid = with_rows_valid l.catalog d n (filter (λ row. not (matches n.table terms row)) (d n.place)) named
        (filtered_table l.catalog n.table (λ row. not (matches n.table terms row)) (d n.place) (valid.tables n.place n.table named.at)) valid;
  }

  -- SELECT: all rows stay
  pub kept : AreReplaced l d n.place n.table [] (d n.place) [] (d n.place)
  kept = record {
    at = named.at;
    parts = λ r h. inr h;
    from_old = λ r h. absurd h;
    from_stay = λ r h. h;
    never_both = λ r h k. absurd h;
    olds_apart = tt;
    new_apart = tt;
    cross = λ r m h k. absurd k;
    new_rows = λ m h. absurd h;
    after_has = only_first (d n.place);
    has_stay = λ r h. h;
    has_new = λ r h. absurd h;
    valid = with_rows_valid l.catalog d n (d n.place) named (valid.tables n.place n.table named.at) valid;
  }
