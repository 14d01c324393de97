-- The columns of a table that isn't REGIONAL BY ROW are those that it declares; of one that is, those and the
-- region after them.
use Rattle.std.proofs.Common.{◌≡◌, ℕ, ◌<◌, Bool, true, false, if◌then◌else◌, cond, List, [], ◌∷◌, ◌++◌, Some, None, length, refl, ap, ◌∙◌, slice_get, position, arith, zero, suc}
use Rattle.std.specs.List.{find}
use Rattle.std.specs.Option.{option_or}
use Rattle.std.specs.Str.{bytes_eq}
use Rattle.std.proofs.lemmas.List.Folds.{find-append}
use Rattle.region_sql.specs.declared.region_statements.ColumnType.{ColumnType}
use Rattle.descriptors.specs.declared.table.Table.{Table}
use Rattle.row_locality.specs.Rows.{is_by_row, all_columns, region_column}
use Rattle.sql_eval.specs.RowWords.{place_of, is_region_column}
use Rattle.sql_eval.specs.Faults.{column_named}
use Rattle.sql_eval.proofs.ListSteps.{none_past, position_first, position_push}

abbrev Column : Type 0
Column = List ℕ × ColumnType

abbrev columns_if : Table → Bool → List Column
columns_if t b = if b then t.columns ++ region_column ∷ [] else t.columns

abbrev named : List ℕ → Column → Bool
named name c = bytes_eq name c.0

pub columns_plain : (t : Table) → is_by_row t ≡ false → all_columns t ≡ t.columns
columns_plain t e = ap (columns_if t) e

pub columns_by_row : (t : Table) → is_by_row t ≡ true → all_columns t ≡ t.columns ++ region_column ∷ []
columns_by_row t e = ap (columns_if t) e

-- ---- places

pub place_declared : (t : Table) (name : List ℕ) (place : ℕ) → position (λ c. bytes_eq name c.0) t.columns ≡ Some place → place_of t name ≡ Some place
place_declared t name place e =
    elim (is_by_row t) as (λ b. position (named name) (columns_if t b) ≡ Some place) [ true ↦ position_first (named name) t.columns region_column place e | false ↦ e ]

pub place_plain : (t : Table) (name : List ℕ) → position (λ c. bytes_eq name c.0) t.columns ≡ None → is_by_row t ≡ false → place_of t name ≡ None
place_plain t name e f = ap (position (named name)) (columns_plain t f) ∙ e

place_last : (t : Table) (name : List ℕ) → position (λ c. bytes_eq name c.0) t.columns ≡ None → is_by_row t ≡ true → place_of t name ≡ cond (is_region_column name) (Some (length t.columns)) None
place_last t name e f = ap (position (named name)) (columns_by_row t f) ∙ position_push (named name) t.columns region_column e

pub place_other : (t : Table) (name : List ℕ) → position (λ c. bytes_eq name c.0) t.columns ≡ None → is_by_row t ≡ true → is_region_column name ≡ false → place_of t name ≡ None
place_other t name e f g = place_last t name e f ∙ ap (λ b. cond b (Some (length t.columns)) None) g

pub place_of_region : (t : Table) (name : List ℕ) → position (λ c. bytes_eq name c.0) t.columns ≡ None → is_by_row t ≡ true → is_region_column name ≡ true → place_of t name ≡ Some (length t.columns)
place_of_region t name e f g = place_last t name e f ∙ ap (λ b. cond b (Some (length t.columns)) None) g

-- ---- columns by name

pub column_declared : (t : Table) (name : List ℕ) (c : Column) → find (λ c. bytes_eq name c.0) t.columns ≡ Some c → column_named t name ≡ Some c
column_declared t name c e =
    elim (is_by_row t) as (λ b. find (named name) (columns_if t b) ≡ Some c) [ true ↦ find-append (named name) t.columns (region_column ∷ []) ∙ ap (λ o. option_or o (find (named name) (region_column ∷ []))) e | false ↦ e ]

pub column_plain : (t : Table) (name : List ℕ) → find (λ c. bytes_eq name c.0) t.columns ≡ None → is_by_row t ≡ false → column_named t name ≡ None
column_plain t name e f = ap (find (named name)) (columns_plain t f) ∙ e

column_last : (t : Table) (name : List ℕ) → find (λ c. bytes_eq name c.0) t.columns ≡ None → is_by_row t ≡ true → column_named t name ≡ cond (is_region_column name) (Some region_column) None
column_last t name e f = ap (find (named name)) (columns_by_row t f) ∙ find-append (named name) t.columns (region_column ∷ []) ∙ ap (λ o. option_or o (find (named name) (region_column ∷ []))) e

pub column_other : (t : Table) (name : List ℕ) → find (λ c. bytes_eq name c.0) t.columns ≡ None → is_by_row t ≡ true → is_region_column name ≡ false → column_named t name ≡ None
column_other t name e f g = column_last t name e f ∙ ap (λ b. cond b (Some region_column) None) g

pub column_of_region : (t : Table) (name : List ℕ) → find (λ c. bytes_eq name c.0) t.columns ≡ None → is_by_row t ≡ true → is_region_column name ≡ true → column_named t name ≡ Some region_column
column_of_region t name e f g = column_last t name e f ∙ ap (λ b. cond b (Some region_column) None) g

-- ---- columns by place

at_front : {X : Type 0} (xs : List X) (y : X) (i : ℕ) (x : X) → slice_get xs i ≡ Some x → slice_get (xs ++ y ∷ []) i ≡ Some x
at_front [] y i x e = cc
at_front (z ∷ zs) y zero x e = e
at_front (z ∷ zs) y (suc i) x e = at_front zs y i x e

at_end : {X : Type 0} (xs : List X) (y : X) (i : ℕ) → slice_get xs i ≡ None → i < length (xs ++ y ∷ []) → slice_get (xs ++ y ∷ []) i ≡ Some y
at_end [] y zero e lt = refl
at_end [] y (suc i) e lt = absurd (omega arith)
at_end (z ∷ zs) y zero e lt = cc
at_end (z ∷ zs) y (suc i) e lt = at_end zs y i e (omega arith)

pub column_at_front : (t : Table) (place : ℕ) (c : Column) → slice_get t.columns place ≡ Some c → slice_get (all_columns t) place ≡ Some c
column_at_front t place c e =
    elim (is_by_row t) as (λ b. slice_get (columns_if t b) place ≡ Some c) [ true ↦ at_front t.columns region_column place c e | false ↦ e ]

pub column_at_end : (t : Table) (place : ℕ) → slice_get t.columns place ≡ None → place < length (all_columns t) → slice_get (all_columns t) place ≡ Some region_column
column_at_end t place e =
    elim (is_by_row t) as (λ b. place < length (columns_if t b) → slice_get (columns_if t b) place ≡ Some region_column) [ true ↦ at_end t.columns region_column place e | false ↦ λ lt. absurd (omega (arith, none_past t.columns place e)) ]
