-- What the terms of WHERE fix of a row that matches.
use Rattle.std.proofs.Common.{◌≡◌, ℕ, zero, suc, Bool, true, false, cond, List, [], ◌∷◌, ◌++◌, length, refl, sym, ap, ◌∙◌, subst, inl, inr, arith}
use Rattle.std.specs.Prelude.{◌≢◌, ◌&&◌, if◌then◌else◌, find, map, position, slice_get, get_or, All, Option, Some, None, option_map, option_and_then}
use Rattle.std.specs.List.{AllByRecursion, list_all, enumerate_from}
use Rattle.std.specs.Option.{option_map_or, option_or}
use Rattle.std.specs.Ordering.{is_eq}
use Rattle.std.specs.Str.{bytes_eq}
use Rattle.std.specs.Cmp.{Equal-is}
use Rattle.std.specs.declared.cmp.Ordering.{Ordering}
use Rattle.std.proofs.lemmas.Bool.{and_parts}
use Rattle.std.proofs.lemmas.List.{append-nil}
use Rattle.std.proofs.lemmas.List.Elements.{recursion_from_All}
use Rattle.std.proofs.lemmas.List.Quantifiers.{position-Some}
use Rattle.std.proofs.lemmas.Slice.Eq.{bytes_eq-Decides}
use Rattle.mr_base.specs.declared.rows.Datum.{Datum}
use Rattle.mr_base.specs.declared.rows.Datum.TheVariants as datums
use Rattle.region_sql.specs.declared.region_statements.ColumnType.{ColumnType}
use Rattle.region_sql.specs.declared.row_statements.Comparison.{Comparison}
use Rattle.region_sql.specs.declared.row_statements.Comparison.TheVariants as comparisons
use Rattle.region_sql.specs.declared.row_statements.Term.{Term}
use Rattle.descriptors.specs.Sound.{IsSoundTable}
use Rattle.descriptors.specs.declared.table.Table.{Table}
use Rattle.row_locality.specs.Rows.{datum_cmp, indexes, is_by_row, region_column, region_of, text_of, values_at}
use Rattle.row_locality.proofs.DatumOrder.{datum_cmp_exact}
use Rattle.sql_eval.specs.Lookups.{is_equality, fixed_value, fixed_region, fixed_value_at, fixed_values, first_fixed, index_for}
use Rattle.sql_eval.specs.RowWords.{place_of, value_in, datum_of, compares, holds, matches}
use Rattle.answer_laws.proofs.Members.{Has, each_has, find_has}
use Rattle.answer_laws.proofs.MoreMembers.{same_some, false_true, got_has, numbered_has, mapped_some, then_some}
use Rattle.answer_laws.proofs.Pairwise.{EachTwo, each_two}
use Rattle.answer_laws.proofs.Positions.{position_first, position_next}
use Rattle.answer_laws.proofs.RowOrder.{Row}

-- ---- searches and tests

found_cases : {X : Type 0} (b : Bool) (y x : X) (p : X → Bool) (o : Option X) → p y ≡ b → (o ≡ Some x → p x ≡ true) → cond b (Some y) o ≡ Some x → p x ≡ true
found_cases true y x p o e h f = subst (λ z. p z ≡ true) (same_some f) e
found_cases false y x p o e h f = h f

found_passes : {X : Type 0} (p : X → Bool) (xs : List X) (x : X) → find p xs ≡ Some x → p x ≡ true
found_passes p [] x e = absurd (cc)
found_passes p (y ∷ ys) x e = found_cases (p y) y x p (find p ys) refl (found_passes p ys x) e

all_pass : {X : Type 0} (test : X → Bool) (xs : List X) (x : X) → list_all test xs ≡ true → Has x xs → test x ≡ true
all_pass test [] x e h = absurd h
all_pass test (y ∷ ys) x e (inl q) = ap test (sym q) ∙ (and_parts (test y) (list_all test ys) e).0
all_pass test (y ∷ ys) x e (inr h) = all_pass test ys x (and_parts (test y) (list_all test ys) e).1 h

-- ---- a term with =

equal_by : (op : Comparison) (o : Ordering) → is_equality op ≡ true → compares op o ≡ true → is_eq o ≡ true
equal_by comparisons.Eq o e f = f
equal_by comparisons.Lt o e f = absurd (false_true e)
equal_by comparisons.Le o e f = absurd (false_true e)
equal_by comparisons.Gt o e f = absurd (false_true e)
equal_by comparisons.Ge o e f = absurd (false_true e)
equal_by comparisons.Ne o e f = absurd (false_true e)

held_by : (term : Term) (o : Option Datum) → is_equality term.op ≡ true → option_map_or (λ v. compares term.op (datum_cmp v (datum_of term.literal))) o false ≡ true
    → o ≡ Some (datum_of term.literal)
held_by term None e f = absurd (false_true f)
held_by term (Some v) e f =
    ap (λ (x : Datum). Some x)
    (datum_cmp_exact v (datum_of term.literal) ((Equal-is (datum_cmp v (datum_of term.literal))).0 (equal_by term.op (datum_cmp v (datum_of term.literal)) e f)))

-- a row that matches has the value to which a column is fixed
pub fixed_is : (t : Table) (terms : List Term) (row : Row) (name : List ℕ) (v : Datum) → matches t terms row ≡ true → fixed_value terms name ≡ Some v → value_in t row name ≡ Some v
unfolding matches
fixed_is t terms row name v m e =
    let test : Term → Bool = λ x. bytes_eq name x.column && is_equality x.op in
    let r = mapped_some (λ (x : Term). datum_of x.literal) (find test terms) v e in
    let both = and_parts (bytes_eq name r.0.column) (is_equality r.0.op) (found_passes test terms r.0 r.1) in
    let same : name ≡ r.0.column = (bytes_eq-Decides name r.0.column).0 both.0 in
    ap (value_in t row) same ∙ held_by r.0 (value_in t row r.0.column) both.1 (all_pass (holds t row) terms r.0 m (find_has test terms r.0 r.1)) ∙ ap (λ (x : Datum). Some x) r.2

-- ---- places of columns

abbrev Columns : Type 0
Columns = List (List ℕ × ColumnType)

two_before : (columns : Columns) → EachTwo (λ (x y : List ℕ). x ≢ y) (map (λ c. c.0) columns) → EachTwo (λ (a b : List ℕ × ColumnType). a.0 ≢ b.0) columns
two_before [] h = tt
two_before (c ∷ columns) h = (each_before columns h.0, two_before columns h.1)
  where
    each_before : (cs : Columns) → AllByRecursion (λ y. c.0 ≢ y) (map (λ (x : List ℕ × ColumnType). x.0) cs) → AllByRecursion (λ (x : List ℕ × ColumnType). c.0 ≢ x.0) cs
    each_before [] h = tt
    each_before (x ∷ cs) h = (h.0, each_before cs h.1)

other_name : (a b : List ℕ) (c : Bool) → bytes_eq a b ≡ c → a ≢ b → bytes_eq a b ≡ false
other_name a b true e h = absurd (h ((bytes_eq-Decides a b).0 e))
other_name a b false e h = e

named_at : (columns more : Columns) (place : ℕ) (c : List ℕ × ColumnType) → EachTwo (λ (a b : List ℕ × ColumnType). a.0 ≢ b.0) columns → slice_get columns place ≡ Some c
    → position (λ x. bytes_eq c.0 x.0) (columns ++ more) ≡ Some place
named_at [] more place c two e = absurd (cc)
named_at (x ∷ columns) more zero c two e =
    let same : x ≡ c = same_some e in
    position_first (λ (y : List ℕ × ColumnType). bytes_eq c.0 y.0) x (columns ++ more) ((bytes_eq-Decides c.0 x.0).1 (ap (λ (y : List ℕ × ColumnType). y.0) (sym same)))
named_at (x ∷ columns) more (suc place) c two e =
    let differs : x.0 ≢ c.0 = each_has (λ (y : List ℕ × ColumnType). x.0 ≢ y.0) c columns two.0 (got_has columns place c e) in
    position_next (λ (y : List ℕ × ColumnType). bytes_eq c.0 y.0) x (columns ++ more) place (other_name c.0 x.0 (bytes_eq c.0 x.0) refl (λ q. differs (sym q)))
    (named_at columns more place c two.1 e)

place_by : (b : Bool) (columns : Columns) (place : ℕ) (c : List ℕ × ColumnType) → EachTwo (λ (a b : List ℕ × ColumnType). a.0 ≢ b.0) columns → slice_get columns place ≡ Some c
    → position (λ x. bytes_eq c.0 x.0) (if b then columns ++ region_column ∷ [] else columns) ≡ Some place
place_by true columns place c two e = named_at columns (region_column ∷ []) place c two e
place_by false columns place c two e =
    ap (position (λ (x : List ℕ × ColumnType). bytes_eq c.0 x.0)) (sym (append-nil columns)) ∙ named_at columns [] place c two e

-- a declared column is found at its place
pub column_place : (t : Table) (place : ℕ) (c : List ℕ × ColumnType) → IsSoundTable t → slice_get t.columns place ≡ Some c → place_of t c.0 ≡ Some place
column_place t place c sound e = place_by (is_by_row t) t.columns place c (two_before t.columns (each_two (λ x y. x ≢ y) (map (λ c. c.0) t.columns) sound.named)) e

-- ---- indexes

fixed_at : (t : Table) (terms : List Term) (row : Row) (place : ℕ) (v : Datum) → IsSoundTable t → matches t terms row ≡ true → fixed_value_at t terms place ≡ Some v
    → slice_get row place ≡ Some v
fixed_at t terms row place v sound m e =
    let r = then_some (λ (c : List ℕ × ColumnType). fixed_value terms c.0) (slice_get t.columns place) v e in
    sym (ap (option_and_then (slice_get row)) (column_place t place r.0 sound r.1)) ∙ fixed_is t terms row r.0.0 v m r.2

values_kept : (row : Row) (place : ℕ) (places : List ℕ) (v : Datum) (vs : List Datum) → slice_get row place ≡ Some v → values_at places row ≡ vs → values_at (place ∷ places) row ≡ v ∷ vs
values_kept row place places v vs e f = rw e (ap (λ (xs : List Datum). v ∷ xs) f)

fixed_all : (t : Table) (terms : List Term) (row : Row) (places : List ℕ) (vs : List Datum) → IsSoundTable t → matches t terms row ≡ true → fixed_values t terms places ≡ Some vs
    → values_at places row ≡ vs
fixed_all t terms row [] vs sound m e = same_some e
fixed_all t terms row (place ∷ places) vs sound m e =
    let r = then_some (λ (v : Datum). option_map (λ vs. v ∷ vs) (fixed_values t terms places)) (fixed_value_at t terms place) vs e in
    let k = mapped_some (λ (xs : List Datum). r.0 ∷ xs) (fixed_values t terms places) vs r.2 in
    values_kept row place places r.0 k.0 (fixed_at t terms row place r.0 sound m r.1) (fixed_all t terms row places k.0 sound m k.1) ∙ k.2

first_cases : (t : Table) (terms : List Term) (y : ℕ × List ℕ) (ys : List (ℕ × List ℕ)) (x : ℕ × List Datum) (o : Option (List Datum)) → fixed_values t terms y.1 ≡ o
    → (first_fixed t terms ys ≡ Some x → (places : List ℕ) × Has (x.0, places) ys × (fixed_values t terms places ≡ Some x.1))
    → option_or (option_map (λ vs. (y.0, vs)) o) (first_fixed t terms ys) ≡ Some x
    → (places : List ℕ) × Has (x.0, places) (y ∷ ys) × (fixed_values t terms places ≡ Some x.1)
first_cases t terms y ys x None f h e = let r = h e in (r.0, inr r.1, r.2)
first_cases t terms y ys x (Some vs) f h e =
    let is : (y.0, vs) ≡ x = same_some e in
    (y.1, inl (λ i. ((is i).0, y.1)), f ∙ ap (λ (z : ℕ × List Datum). Some z.1) is)

first_is : (t : Table) (terms : List Term) (ys : List (ℕ × List ℕ)) (x : ℕ × List Datum) → first_fixed t terms ys ≡ Some x
    → (places : List ℕ) × Has (x.0, places) ys × (fixed_values t terms places ≡ Some x.1)
first_is t terms [] x e = absurd (cc)
first_is t terms (y ∷ ys) x e = first_cases t terms y ys x (fixed_values t terms y.1) refl (first_is t terms ys x) e

-- the index by which rows are found, and the values that each row that matches has in it
pub record IsFoundBy (t : Table) (terms : List Term) (x : ℕ × List Datum) : Type 0 where
  pub places : List ℕ
  pub index : slice_get (indexes t) x.0 ≡ Some places
  pub values : (row : Row) → matches t terms row ≡ true → values_at places row ≡ x.1

pub found_by_index : (t : Table) (terms : List Term) (x : ℕ × List Datum) → IsSoundTable t → index_for t terms ≡ Some x → IsFoundBy t terms x
unfolding index_for
found_by_index t terms x sound e =
    let r = first_is t terms (enumerate_from 0 (indexes t)) x e in
    let k = numbered_has 0 (indexes t) (x.0, r.0) r.1 in
    let same : k.0 ≡ x.0 = omega (arith, k.2) in
    record {
      places = r.0;
      index = subst (λ (n : ℕ). slice_get (indexes t) n ≡ Some r.0) same k.1;
      values = λ row m. fixed_all t terms row r.0 x.1 sound m r.2;
    }

-- ---- regions

as_text : (v : Datum) (region : List ℕ) → text_of v ≡ Some region → v ≡ datums.Text region
as_text (datums.Int n) region e = absurd (cc)
as_text (datums.Text s) region e = ap datums.Text (same_some e)
as_text (datums.Bool b) region e = absurd (cc)

named_last : (columns : Columns) → AllByRecursion (λ (c : List ℕ × ColumnType). c.0 ≢ region_column.0) columns
    → position (λ x. bytes_eq region_column.0 x.0) (columns ++ region_column ∷ []) ≡ Some (length columns)
named_last [] h = position_first (λ (y : List ℕ × ColumnType). bytes_eq region_column.0 y.0) region_column [] ((bytes_eq-Decides region_column.0 region_column.0).1 refl)
named_last (c ∷ columns) h =
    position_next (λ (y : List ℕ × ColumnType). bytes_eq region_column.0 y.0) c (columns ++ region_column ∷ []) (length columns)
    (other_name region_column.0 c.0 (bytes_eq region_column.0 c.0) refl (λ q. h.0 (sym q))) (named_last columns h.1)

region_by : (b : Bool) (columns : Columns) (row : Row) (region : List ℕ) → All (λ c. c.0 ≢ region_column.0) columns
    → option_and_then (slice_get row) (position (λ x. bytes_eq region_column.0 x.0) (if b then columns ++ region_column ∷ [] else columns)) ≡ Some (datums.Text region)
    → (if b then option_and_then text_of (slice_get row (length columns)) else None) ≡ Some region
region_by true columns row region h e =
    let last : slice_get row (length columns) ≡ Some (datums.Text region) =
    sym (ap (option_and_then (slice_get row)) (named_last columns (recursion_from_All (λ c. c.0 ≢ region_column.0) columns h))) ∙ e in
    ap (option_and_then text_of) last
region_by false columns row region h e =
    let r = then_some (slice_get row) (position (λ (x : List ℕ × ColumnType). bytes_eq region_column.0 x.0) columns) (datums.Text region) e in
    let at = position-Some (λ (x : List ℕ × ColumnType). bytes_eq region_column.0 x.0) columns r.0 region_column r.1 in
    absurd (h r.0 region_column at.0 (sym ((bytes_eq-Decides region_column.0 (get_or columns r.0 region_column).0).0 at.1)))

-- a row that matches lives in the region to which the terms fix it
pub region_is : (t : Table) (terms : List Term) (row : Row) (region : List ℕ) → IsSoundTable t → matches t terms row ≡ true → fixed_region terms ≡ Some region → region_of t row ≡ Some region
region_is t terms row region sound m e =
    let r = then_some text_of (fixed_value terms region_column.0) region e in
    let value : value_in t row region_column.0 ≡ Some (datums.Text region) = fixed_is t terms row region_column.0 r.0 m r.1 ∙ ap (λ (x : Datum). Some x) (as_text r.0 region r.2) in
    region_by (is_by_row t) t.columns row region sound.not_hidden value
