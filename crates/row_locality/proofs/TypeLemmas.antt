-- The values of a row's keys have the types of their columns.
use Rattle.std.proofs.Common.{◌≡◌, ℕ, zero, suc, ◌<◌, Bool, true, false, cond, List, [], ◌∷◌, ◌++◌, length, map, Some, refl, sym, subst, arith}
use Rattle.std.specs.Prelude.{slice_get}
use Rattle.std.specs.List.{AllZip, AllByRecursion}
use Rattle.std.proofs.lemmas.List.{append-nil}
use Rattle.std.proofs.lemmas.List.Elements.{recursion_from_All}
use Rattle.mr_base.specs.declared.rows.Datum.{Datum}
use Rattle.region_sql.specs.declared.region_statements.ColumnType.{ColumnType}
use Rattle.descriptors.specs.declared.table.Table.{Table}
use Rattle.descriptors.specs.Sound.{IsSoundTable}
use Rattle.row_locality.specs.Rows.{HasType, Fits, is_by_row, region_column, indexes, values_at, key_of}
use Rattle.row_locality.specs.Keys.{types_at, index_types, primary_key, index_key, IsKeyOf}

abbrev Columns : Type 0
Columns = List (List ℕ × ColumnType)

-- what stands at a place of both lists
record At (columns : Columns) (row : List Datum) (place : ℕ) : Type 0 where
  column : List ℕ × ColumnType
  value : Datum
  column_at : slice_get columns place ≡ Some column
  value_at : slice_get row place ≡ Some value
  typed : HasType column.1 value

at_place : (columns more : Columns) (row : List Datum) (place : ℕ) → AllZip (λ c v. HasType c.1 v) (columns ++ more) row → place < length columns → At columns row place
at_place [] more row place fits h = absurd (omega arith)
at_place (c ∷ cs) more [] place fits h = absurd fits
at_place (c ∷ cs) more (v ∷ row) zero fits h = record { column = c; value = v; column_at = refl; value_at = refl; typed = fits.0 }
at_place (c ∷ cs) more (v ∷ row) (suc place) fits h =
    let rest = at_place cs more row place fits.1 (omega arith) in
    record { column = rest.column; value = rest.value; column_at = rest.column_at; value_at = rest.value_at; typed = rest.typed }

behind : (b : Bool) (columns : Columns) (region : List ℕ × ColumnType) (row : List Datum) → AllZip (λ c v. HasType c.1 v) (cond b (columns ++ region ∷ []) columns) row
    → (more : Columns) × AllZip (λ c v. HasType c.1 v) (columns ++ more) row
behind true columns region row fits = (region ∷ [], fits)
behind false columns region row fits = ([], subst (λ (cs : Columns). AllZip (λ c v. HasType c.1 v) cs row) (sym (append-nil columns)) fits)

-- the columns that a table declares stand first
pub declared_first : (t : Table) (row : List Datum) → Fits t row → (more : Columns) × AllZip (λ c v. HasType c.1 v) (t.columns ++ more) row
declared_first t row fits = behind (is_by_row t) t.columns region_column row fits

pub values_typed : (t : Table) (row : List Datum) (places : List ℕ) → Fits t row → AllByRecursion (λ p. p < length t.columns) places → AllZip HasType (types_at t places) (values_at places row)
values_typed t row [] fits h = tt
values_typed t row (p ∷ ps) fits h =
    let d = declared_first t row fits in
    let at = at_place t.columns d.0 row p d.1 h.0 in
    rw (at.column_at, at.value_at) (at.typed, values_typed t row ps fits h.1)

pub key_typed : (t : Table) (row : List Datum) → IsSoundTable t → Fits t row → AllZip HasType (index_types t 0) (key_of t row)
key_typed t row sound fits = values_typed t row t.key fits (recursion_from_All _ t.key sound.key_places)

pub primary_is_key : (t : Table) (row : List Datum) → IsSoundTable t → Fits t row → IsKeyOf t 0 (primary_key t row)
primary_is_key t row sound fits = (key_of t row, key_typed t row sound fits, refl)

one_place : (t : Table) (row : List Datum) (unique : List ℕ) (number : ℕ) (places : List ℕ) → Fits t row → AllByRecursion (λ p. p < length t.columns) unique
    → slice_get (map (λ c. c ∷ []) unique) number ≡ Some places → AllZip HasType (types_at t places) (values_at places row)
one_place t row [] number places fits h e = absurd cc
one_place t row (c ∷ cs) zero places fits h e =
    let is : c ∷ [] ≡ places = cc in
    subst (λ (ps : List ℕ). AllZip HasType (types_at t ps) (values_at ps row)) is (values_typed t row (c ∷ []) fits (h.0, tt))
one_place t row (c ∷ cs) (suc number) places fits h e = one_place t row cs number places fits h.1 e

-- the values of a row in the columns of an index have the types of the index
pub index_typed : (t : Table) (row : List Datum) (number : ℕ) (places : List ℕ) → IsSoundTable t → Fits t row → slice_get (indexes t) number ≡ Some places
    → AllZip HasType (index_types t number) (values_at places row)
index_typed t row zero places sound fits e =
    let is : t.key ≡ places = cc in
    subst (λ (ps : List ℕ). AllZip HasType (index_types t 0) (values_at ps row)) is (key_typed t row sound fits)
index_typed t row (suc number) places sound fits e =
    rw e (one_place t row t.unique number places fits (recursion_from_All _ t.unique sound.unique_places) e)

pub index_is_key : (t : Table) (row : List Datum) (number : ℕ) (places : List ℕ) → IsSoundTable t → Fits t row → slice_get (indexes t) number ≡ Some places
    → IsKeyOf t number (index_key number (values_at places row))
index_is_key t row number places sound fits e = (values_at places row, index_typed t row number places sound fits e, refl)
