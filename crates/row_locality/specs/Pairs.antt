-- Rows as pairs of key and value. Source: this project's profile, after CockroachDB's encoding of rows and
-- of unique secondary indexes.
use Rattle.std.specs.Prelude.{◌≡◌, ℕ, List, [], ◌∷◌, map, All, Option, length, take}
use Rattle.std.specs.Cmp.Lexicographic.{slice_cmp}
use Rattle.std.specs.FinMap.Entries.{put}
use Rattle.std.specs.List.{enumerate_from}
use Rattle.std.specs.Ordering.{nat_cmp}
use Rattle.std.specs.declared.cmp.Ordering.{Ordering}
use Rattle.mr_base.specs.declared.rows.Datum.{Datum}
use Rattle.mr_base.specs.declared.spans.Pair.{Pair}
use Rattle.descriptors.specs.declared.table.Table.{Table}
use Rattle.row_locality.specs.Rows.{Fits, region_of, values_at, unique_indexes}
use Rattle.row_locality.specs.Keys.{index_key, primary_key}
use Rattle.row_locality.specs.Values.{value_of, HasLength}

-- A key and its value. A range holds a list of them whose keys rise by byte order.
abbrev pub KeyValue : Type 0
KeyValue = List ℕ × List ℕ

-- Keys order byte by byte, the shorter of two that agree first.
abbrev pub bytes_cmp : List ℕ → List ℕ → Ordering
bytes_cmp = slice_cmp nat_cmp

abbrev pub key_value : Pair → KeyValue
key_value p = (p.key, p.value)

-- The pair of a row in the primary index.
abbrev pub row_pair : Table → List Datum → KeyValue
row_pair t row = (primary_key t row, value_of t row)

-- The pairs of a row in the secondary indexes, one for each UNIQUE column in declared order. The value is
-- the primary key.
abbrev pub index_pairs : Table → List Datum → List KeyValue
index_pairs t row = map (λ x. (index_key x.0 (values_at x.1 row), primary_key t row)) (enumerate_from 1 (unique_indexes t))

-- All pairs of a row. They stand in the range of its region, and are written and removed together.
abbrev pub pairs_of : Table → List Datum → List KeyValue
pairs_of t row = row_pair t row ∷ index_pairs t row

-- A pair is of a row that fits the table and lives in this region. The length of each text in its value
-- fits into the bytes for it.
pub record IsPairOf (t : Table) (region : Option (List ℕ)) (row : List Datum) (p : KeyValue) : Type 0 where
  pub fits : Fits t row
  pub lives : region_of t row ≡ region
  pub lengths : All HasLength (take (length t.columns) row)
  pub pair : p ≡ row_pair t row

-- Entries by key put into others, one after the other: of two with one key the later stands.
abbrev pub put_all : {X : Type 0} → List (List ℕ × X) → List (List ℕ × X) → List (List ℕ × X)
put_all [] pairs = pairs
put_all (p ∷ ps) pairs = put_all ps (put bytes_cmp p.0 p.1 pairs)
