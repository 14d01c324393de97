-- Which rows the spans of look-ups hold.
use Rattle.std.proofs.Common.{◌≡◌, ℕ, ◌+◌, ◌<◌, ◌≤◌, cond, ltb, List, [], ◌∷◌, length, Option, Some, None, Result, refl, sym, ap, ◌∙◌, subst, inl, inr, arith}
use Rattle.std.specs.Prelude.{◌↔◌, ◌==◌, IsTrue, Contains, IfOk, position, unwrap_or}
use Rattle.std.specs.List.{AllZip, position_or_len}
use Rattle.std.proofs.lemmas.Bool.{cases_lt, lt-ltb, le-ltb}
use Rattle.std.proofs.lemmas.List.Sums.{prefix_len-le-length}
use Rattle.std.proofs.lemmas.Result.{IfOk-weaker}
use Rattle.mr_base.specs.declared.memory.Memory.{Memory}
use Rattle.mr_base.specs.declared.rows.Datum.{Datum}
use Rattle.mr_base.specs.declared.spans.Span.{Span}
use Rattle.region_sql.specs.declared.region_statements.ColumnType.{ColumnType}
use Rattle.descriptors.specs.declared.table.Table.{Table}
use Rattle.descriptors.specs.Sound.{IsSoundTable}
use Rattle.row_locality.specs.Rows.{HasType, index_of, values_at, key_of}
use Rattle.row_locality.specs.Keys.{index_key, index_types, types_at}
use Rattle.row_locality.specs.Spans.{point_of, is_in}
use Rattle.row_locality.specs.RowSpans.{HoldsRowsWithKey, HoldsRowsWithValue}
use Rattle.row_locality.proofs.KeyLemmas.{equal_keys}
use Rattle.row_locality.proofs.PointLemmas.{point_holds}
use Rattle.row_locality.proofs.TypeLemmas.{values_typed, key_typed}

-- the point of a key of an index holds, of that index, the key of the same values
pub point_of_values : (types : List ColumnType) (xs ys : List Datum) (n : ℕ) → AllZip HasType types xs → AllZip HasType types ys
    → IsTrue (is_in (point_of (index_key n xs)) (index_key n ys)) ↔ (ys ≡ xs)
point_of_values types xs ys n p q =
    let holds = point_holds (index_key n xs) (index_key n ys) in
    (λ e. equal_keys types ys xs q p n (holds.0 e), λ e. holds.1 (ap (index_key n) e))

key_rows : (t : Table) (key : List Datum) (s : Span) → IsSoundTable t → AllZip HasType (index_types t 0) key → s ≡ point_of (index_key 0 key) → HoldsRowsWithKey t key s
key_rows t key s sound typed is = subst (HoldsRowsWithKey t key) (sym is) (λ row fits. point_of_values (index_types t 0) key (key_of t row) 0 typed (key_typed t row sound fits))

pub point_rows : (t : Table) (key : List Datum) (r : Result Span Memory) → IsSoundTable t → AllZip HasType (index_types t 0) key → IfOk r (λ s. s ≡ point_of (index_key 0 key))
    → IfOk r (HoldsRowsWithKey t key)
point_rows t key r sound typed h = IfOk-weaker r (λ s. s ≡ point_of (index_key 0 key)) (HoldsRowsWithKey t key) (λ s is. key_rows t key s sound typed is) h

unique_place : (t : Table) (column : ℕ) → IsSoundTable t → Contains t.unique column → column < length t.columns
unique_place t column sound (k, h, is) = subst (λ c. c < length t.columns) is (sound.unique_places k column h)

value_rows : (t : Table) (column : ℕ) (v : Datum) (s : Span) → IsSoundTable t → Contains t.unique column → AllZip HasType (types_at t (column ∷ [])) (v ∷ [])
    → s ≡ point_of (index_key (index_of t column) (v ∷ [])) → HoldsRowsWithValue t column v s
value_rows t column v s sound there typed is =
    subst (HoldsRowsWithValue t column v) (sym is)
    (λ row fits. point_of_values (types_at t (column ∷ [])) (v ∷ []) (values_at (column ∷ []) row) (index_of t column) typed (values_typed t row (column ∷ []) fits (unique_place t column sound there, tt)))

pub unique_rows : (t : Table) (column : ℕ) (v : Datum) (r : Result Span Memory) → IsSoundTable t → Contains t.unique column → AllZip HasType (types_at t (column ∷ [])) (v ∷ [])
    → IfOk r (λ s. s ≡ point_of (index_key (index_of t column) (v ∷ []))) → IfOk r (HoldsRowsWithValue t column v)
unique_rows t column v r sound there typed h =
    IfOk-weaker r (λ s. s ≡ point_of (index_key (index_of t column) (v ∷ []))) (HoldsRowsWithValue t column v) (λ s is. value_rows t column v s sound there typed is) h

-- ---- the number of an index

first_of : (n k : ℕ) → n ≤ k → unwrap_or (cond (ltb n k) (Some n) None) k ≡ n
first_of n k h =
    elim (cases_lt n k) [
      | inl lt ↦ rw (lt-ltb n k lt) refl
      | inr le ↦ rw (le-ltb n k le) (omega arith)
    ]

pub number_of : (column : ℕ) (xs ys : List ℕ) (r : Option ℕ) (n : ℕ) → ys ≡ xs → r ≡ position (λ c. c == column) ys → n ≡ unwrap_or r (length ys) → 1 + n ≡ 1 + position_or_len (λ c. c == column) xs
number_of column xs ys r n same r-is n-is =
    let at : unwrap_or (position (λ c. c == column) ys) (length ys) ≡ position_or_len (λ c. c == column) ys = first_of (position_or_len (λ c. c == column) ys) (length ys) (prefix_len-le-length _ ys) in
    ap (λ m. 1 + m) (n-is ∙ ap (λ (o : Option ℕ). unwrap_or o (length ys)) r-is ∙ at ∙ ap (position_or_len (λ c. c == column)) same)
