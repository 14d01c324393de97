-- Laws on the keys of a table's indexes.
use Rattle.std.specs.Prelude.{◌≡◌, ℕ, ◌==◌, ◌↔◌, IsTrue, List, [], ◌++◌}
use Rattle.std.specs.List.{AllZip}
use Rattle.std.specs.Ordering.{ordering_then}
use Rattle.mr_base.specs.declared.rows.Datum.{Datum}
use Rattle.region_sql.specs.declared.region_statements.ColumnType.{ColumnType}
use Rattle.descriptors.specs.declared.table.Table.{Table}
use Rattle.row_locality.specs.Rows.{HasType, key_cmp}
use Rattle.row_locality.specs.Keys.{index_key, IsKeyOf}
use Rattle.row_locality.specs.Pairs.{bytes_cmp}
use Rattle.row_locality.specs.Spans.{point_of, all_rows, is_in}

-- Two keys of one index, whatever follows them, order by bytes as their values do. Where the values are equal,
-- what follows decides.
abbrev pub KeysOrderAsValues : Type 0
KeysOrderAsValues = (types : List ColumnType) (xs ys : List Datum) → AllZip HasType types xs → AllZip HasType types ys
    → (number : ℕ) (a b : List ℕ) → bytes_cmp (index_key number xs ++ a) (index_key number ys ++ b) ≡ ordering_then (key_cmp xs ys) (bytes_cmp a b)

-- Equal keys of one index are of equal values.
abbrev pub EqualKeysHaveEqualValues : Type 0
EqualKeysHaveEqualValues = (types : List ColumnType) (xs ys : List Datum) → AllZip HasType types xs → AllZip HasType types ys
    → (number : ℕ) → index_key number xs ≡ index_key number ys → xs ≡ ys

-- A key of a table begins a key of the table only where both are one, of one index.
abbrev pub NoKeyBeginsAnother : Type 0
NoKeyBeginsAnother = (t : Table) (m n : ℕ) (key other rest : List ℕ) → IsKeyOf t m key → IsKeyOf t n other → key ++ rest ≡ other → (m ≡ n) × (rest ≡ [])

-- The span of one key holds that key and no other.
abbrev pub PointHoldsOneKey : Type 0
PointHoldsOneKey = (key other : List ℕ) → IsTrue (is_in (point_of key) other) ↔ (other ≡ key)

-- The span of all rows holds each primary key and no other key of an index.
abbrev pub AllRowsAreThePrimaryKeys : Type 0
AllRowsAreThePrimaryKeys = (number : ℕ) (values : List Datum) → is_in all_rows (index_key number values) ≡ (number == 0)
