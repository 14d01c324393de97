-- The keys of a table's indexes. Source: this project's profile, after CockroachDB's encoding of keys.
use Rattle.std.specs.Prelude.{◌≡◌, ℕ, ℤ, pos, negsuc, ◌+◌, ◌-◌, ◌^◌, ◌==◌, if◌then◌else◌, List, [], ◌∷◌, ◌++◌, flat_map, filter_map, map, slice_get, option_map, unwrap_or}
use Rattle.std.specs.Int.{w64, to_be_bytes, from_bool}
use Rattle.std.specs.List.{AllZip}
use Rattle.mr_base.specs.declared.rows.Datum.{Datum}
use Rattle.mr_base.specs.declared.rows.Datum.TheVariants as datums
use Rattle.region_sql.specs.declared.region_statements.ColumnType.{ColumnType}
use Rattle.descriptors.specs.declared.table.Table.{Table}
use Rattle.row_locality.specs.Rows.{HasType, indexes, key_of}

-- An INT plus 2^63, which orders as the INT does.
abbrev pub biased_int : ℤ → ℕ
biased_int (pos n) = 2 ^ 63 + n
biased_int (negsuc n) = 2 ^ 63 - 1 - n

-- A zero byte within a text is followed by 255.
abbrev pub escaped_byte : ℕ → List ℕ
escaped_byte b = if b == 0 then 0 ∷ 255 ∷ [] else b ∷ []

-- A value in a key. INT: eight bytes of the biased value, the highest first. STRING: its bytes, escaped,
-- then 0 and 1. BOOL: 0 or 1.
unfoldable pub key_part : Datum → List ℕ
key_part (datums.Int n) = to_be_bytes w64 (biased_int n)
key_part (datums.Text s) = flat_map escaped_byte s ++ 0 ∷ 1 ∷ []
key_part (datums.Bool b) = from_bool b ∷ []

-- A key of an index: the index's number, then the values of its columns. Keys of one index order by
-- bytes as their values do, and no key begins another.
abbrev pub index_key : ℕ → List Datum → List ℕ
index_key number values = number ∷ flat_map key_part values

-- The primary key of a row.
abbrev pub primary_key : Table → List Datum → List ℕ
primary_key t row = index_key 0 (key_of t row)

-- The types of the columns of an index.
abbrev pub types_at : Table → List ℕ → List ColumnType
types_at t places = map (λ c. c.1) (filter_map (slice_get t.columns) places)

abbrev pub index_types : Table → ℕ → List ColumnType
index_types t number = unwrap_or (option_map (types_at t) (slice_get (indexes t) number)) []

-- The bytes are a key of the index of this number.
abbrev pub IsKeyOf : Table → ℕ → List ℕ → Type 0
IsKeyOf t number key = (values : List Datum) × AllZip HasType (index_types t number) values × (key ≡ index_key number values)
