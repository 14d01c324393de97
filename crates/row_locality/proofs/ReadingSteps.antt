-- Steps of the loops that read.
use Rattle.std.proofs.Common.{◌≡◌, ℕ, ◌+◌, ◌<◌, ◌≤◌, Bool, true, false, eqb, List, [], ◌∷◌, ◌++◌, length, drop, get_or, Option, Some, None, Err, refl, sym, ap, ◌∙◌}
use Rattle.std.specs.Prelude.{option_and_then}
use Rattle.std.proofs.lemmas.Bool.{eqb-true}
use Rattle.std.proofs.lemmas.List.{drop_more, drop_all, nil_from_length}
use Rattle.mr_base.specs.declared.rows.Datum.{Datum}
use Rattle.region_sql.specs.declared.region_statements.ColumnType.{ColumnType}
use Rattle.row_locality.specs.declared.decode_fault.DecodeFault.{DecodeFault}
use Rattle.row_locality.specs.declared.decode_fault.DecodeFault.TheVariants as faults
use Rattle.row_locality.specs.Decoding.{Reads}
use Rattle.row_locality.specs.Reading.{column_at, at_end, columns_at}

abbrev Columns : Type 0
Columns = List (List ℕ × ColumnType)

at_column : (row : List Datum) (rest : List ℕ) (columns : Columns) (i : ℕ) (c : List ℕ × ColumnType) → i < length columns → c ≡ get_or columns i c
    → columns_at row rest (drop i columns) ≡ option_and_then (λ x. columns_at (row ++ x.0 ∷ []) x.1 (drop (i + 1) columns)) (column_at c.1 rest)
unfolding columns_at
at_column row rest columns i c h is =
    ap (columns_at row rest) (drop_more columns i c h ∙ ap (λ (x : List ℕ × ColumnType). x ∷ drop (i + 1) columns) (sym is))

pub column_read : (row : List Datum) (rest : List ℕ) (columns : Columns) (i : ℕ) (c : List ℕ × ColumnType) (v : Datum) (after : List ℕ) (longer : List Datum) (total : Option (List Datum)) → i < length columns → c ≡ get_or columns i c
    → column_at c.1 rest ≡ Some (v, after) → longer ≡ row ++ v ∷ [] → columns_at row rest (drop i columns) ≡ total → columns_at longer after (drop (i + 1) columns) ≡ total
column_read row rest columns i c v after longer total h is read longer-is so_far =
    ap (λ (vs : List Datum). columns_at vs after (drop (i + 1) columns)) longer-is
    ∙ sym (at_column row rest columns i c h is ∙ ap (option_and_then (λ (x : Datum × List ℕ). columns_at (row ++ x.0 ∷ []) x.1 (drop (i + 1) columns))) read) ∙ so_far

pub column_fault : {X Y : Type 0} (view : X → Datum × List ℕ) (seen : Y → List Datum) (f : DecodeFault) (row : List Datum) (rest : List ℕ) (columns : Columns) (i : ℕ) (c : List ℕ × ColumnType) (total : Option (List Datum)) → i < length columns → c ≡ get_or columns i c
    → Reads view (Err f) (column_at c.1 rest) → columns_at row rest (drop i columns) ≡ total → Reads seen (Err f) total
column_fault view seen faults.Malformed row rest columns i c total h is read so_far =
    sym so_far ∙ at_column row rest columns i c h is ∙ ap (option_and_then (λ (x : Datum × List ℕ). columns_at (row ++ x.0 ∷ []) x.1 (drop (i + 1) columns))) read
column_fault view seen faults.Memory row rest columns i c total h is read so_far = tt

at_last : (row : List Datum) (rest : List ℕ) (columns : Columns) (i : ℕ) → length columns ≤ i → columns_at row rest (drop i columns) ≡ at_end row rest
unfolding columns_at
at_last row rest columns i h = ap (columns_at row rest) (drop_all i columns h)

ends : (row : List Datum) (rest : List ℕ) → eqb (length rest) 0 ≡ true → at_end row rest ≡ Some row
ends row rest e = ap (at_end row) (nil_from_length rest (eqb-true (length rest) 0 e))

goes_on : (row : List Datum) (rest : List ℕ) → eqb (length rest) 0 ≡ false → at_end row rest ≡ None
goes_on row [] e = absurd cc
goes_on row (b ∷ rest) e = refl

pub columns_ended : (row : List Datum) (rest : List ℕ) (columns : Columns) (i : ℕ) (empty : Bool) (total : Option (List Datum)) → length columns ≤ i → empty ≡ eqb (length rest) 0 → empty ≡ true
    → columns_at row rest (drop i columns) ≡ total → total ≡ Some row
columns_ended row rest columns i empty total h e is so_far = sym so_far ∙ at_last row rest columns i h ∙ ends row rest (sym e ∙ is)

pub columns_left : (row : List Datum) (rest : List ℕ) (columns : Columns) (i : ℕ) (empty : Bool) (total : Option (List Datum)) → length columns ≤ i → empty ≡ eqb (length rest) 0 → empty ≡ false
    → columns_at row rest (drop i columns) ≡ total → total ≡ None
columns_left row rest columns i empty total h e is so_far = sym so_far ∙ at_last row rest columns i h ∙ goes_on row rest (sym e ∙ is)
