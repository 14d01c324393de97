-- The type of the column of a name: a declared one, or else the region's.
use Rattle.std.proofs.Common.{◌≡◌, ℕ, Bool, true, false, cond, List, [], ◌∷◌, ◌++◌, refl, sym, ap, ◌∙◌}
use Rattle.std.specs.Prelude.{Some, None, find, option_map}
use Rattle.std.specs.Option.{option_or}
use Rattle.std.specs.Str.{bytes_eq}
use Rattle.std.proofs.lemmas.List.Folds.{find-append}
use Rattle.region_sql.specs.declared.region_statements.ColumnType.{ColumnType}
use Rattle.descriptors.specs.declared.table.Table.{Table}
use Rattle.row_locality.specs.Rows.{is_by_row, region_column}
use Rattle.sql_eval.specs.Faults.{column_named}
use Rattle.local_search.specs.LookupOrder.{hidden_type}

abbrev Columns : Type 0
Columns = List (List ℕ × ColumnType)

abbrev named : List ℕ → List ℕ × ColumnType → Bool
named name c = bytes_eq name c.0

found_first : (b : Bool) (name : List ℕ) (columns : Columns) (c : List ℕ × ColumnType) → Some c ≡ find (named name) columns
    → Some c ≡ find (named name) (cond b (columns ++ region_column ∷ []) columns)
found_first true name columns c e = sym (find-append (named name) columns (region_column ∷ []) ∙ ap (λ o. option_or o (find (named name) (region_column ∷ []))) (sym e))
found_first false name columns c e = e

pub declared_type : (t : Table) (name : List ℕ) (c : List ℕ × ColumnType) → Some c ≡ find (λ c. bytes_eq name c.0) t.columns → Some c.1 ≡ option_map (λ c. c.1) (column_named t name)
declared_type t name c e = ap (option_map (λ (x : List ℕ × ColumnType). x.1)) (found_first (is_by_row t) name t.columns c e)

last_type : (b : Bool) (c : List ℕ × ColumnType) → cond b (Some c.1) None ≡ option_map (λ (x : List ℕ × ColumnType). x.1) (cond b (Some c) None)
last_type true c = refl
last_type false c = refl

found_last : (b : Bool) (name : List ℕ) (columns : Columns) → None ≡ find (named name) columns
    → cond b (cond (bytes_eq name region_column.0) (Some region_column.1) None) None ≡ option_map (λ (x : List ℕ × ColumnType). x.1) (find (named name) (cond b (columns ++ region_column ∷ []) columns))
found_last true name columns e =
    last_type (bytes_eq name region_column.0) region_column
    ∙ ap (option_map (λ (x : List ℕ × ColumnType). x.1)) (sym (find-append (named name) columns (region_column ∷ []) ∙ ap (λ o. option_or o (find (named name) (region_column ∷ []))) (sym e)))
found_last false name columns e = ap (option_map (λ (x : List ℕ × ColumnType). x.1)) e

pub undeclared_type : (t : Table) (name : List ℕ) → None ≡ find (λ c. bytes_eq name c.0) t.columns → hidden_type t name ≡ option_map (λ c. c.1) (column_named t name)
undeclared_type t name e = found_last (is_by_row t) name t.columns e
