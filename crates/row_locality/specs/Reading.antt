-- Reading rows and keys from bytes. A reader takes what it reads from the front, and answers nothing where
-- the bytes don't begin so. Source: this project's profile.
use Rattle.std.specs.Prelude.{ℕ, ℤ, pos, negsuc, ◌-◌, ◌^◌, ◌==◌, Bool, true, false, ◌&&◌, if◌then◌else◌, nat_lt, List, [], ◌∷◌, ◌++◌, length, take, drop, Option, Some, None, option_and_then, is_some, bytes_eq}
use Rattle.std.specs.Int.{w32, w64, from_be_bytes, cast_signed}
use Rattle.std.specs.Str.{is_utf8}
use Rattle.mr_base.specs.declared.rows.Datum.{Datum}
use Rattle.mr_base.specs.declared.rows.Datum.TheVariants as datums
use Rattle.region_sql.specs.declared.region_statements.ColumnType.{ColumnType}
use Rattle.region_sql.specs.declared.region_statements.ColumnType.TheVariants as types
use Rattle.descriptors.specs.declared.table.Table.{Table}
use Rattle.row_locality.specs.Keys.{primary_key, index_types}
use Rattle.row_locality.specs.Pairs.{KeyValue}

-- ---- values of rows

-- 0 is false and 1 is true.
unfoldable pub bool_at : List ℕ → Option (Datum × List ℕ)
bool_at [] = None
bool_at (b ∷ bytes) = if b == 0 then Some (datums.Bool false, bytes) else (if b == 1 then Some (datums.Bool true, bytes) else None)

-- Two's complement in eight bytes, the highest first.
unfoldable pub int_at : List ℕ → Option (Datum × List ℕ)
int_at bytes = if nat_lt (length bytes) 8 then None else Some (datums.Int (cast_signed w64 (from_be_bytes w64 (take 8 bytes))), drop 8 bytes)

-- A text of so many bytes.
unfoldable pub text_at : ℕ → List ℕ → Option (Datum × List ℕ)
text_at n bytes = if nat_lt (length bytes) n then None else (if is_utf8 (take n bytes) then Some (datums.Text (take n bytes), drop n bytes) else None)

-- The length of a text in four bytes, then the text.
unfoldable pub measured_text_at : List ℕ → Option (Datum × List ℕ)
measured_text_at bytes = if nat_lt (length bytes) 4 then None else text_at (from_be_bytes w32 (take 4 bytes)) (drop 4 bytes)

-- A column of this type: its tag, then the value.
unfoldable pub column_at : ColumnType → List ℕ → Option (Datum × List ℕ)
column_at ty [] = None
column_at types.Int (tag ∷ bytes) = if tag == 1 then int_at bytes else None
column_at types.String (tag ∷ bytes) = if tag == 2 then measured_text_at bytes else None
column_at types.Bool (tag ∷ bytes) = if tag == 3 then bool_at bytes else None

-- What was read, where nothing is left.
abbrev pub at_end : {X : Type 0} → X → List ℕ → Option X
at_end x [] = Some x
at_end x (b ∷ bytes) = None

-- All of the bytes as these columns, behind the values that were read before.
unfoldable pub columns_at : List Datum → List ℕ → List (List ℕ × ColumnType) → Option (List Datum)
columns_at row bytes [] = at_end row bytes
columns_at row bytes (c ∷ columns) = option_and_then (λ x. columns_at (row ++ x.0 ∷ []) x.1 columns) (column_at c.1 bytes)

-- The region as the last value of a row, where it has one.
abbrev pub region_value : Option (List ℕ) → List Datum
region_value None = []
region_value (Some region) = datums.Text region ∷ []

abbrev pub if_keyed : Table → List ℕ → List Datum → Option (List Datum)
if_keyed t key row = if bytes_eq key (primary_key t row) then Some row else None

-- The row that a pair is of, in a partition of this region: the value holds exactly the table's columns,
-- and the key is the one that they give.
unfoldable pub row_of : Table → Option (List ℕ) → KeyValue → Option (List Datum)
row_of t region p = option_and_then (λ values. if_keyed t p.0 (values ++ region_value region)) (columns_at [] p.1 t.columns)

-- ---- keys

-- The INT of a biased value.
abbrev pub int_of_biased : ℕ → ℤ
int_of_biased n = if nat_lt n (2 ^ 63) then negsuc (2 ^ 63 - 1 - n) else pos (n - 2 ^ 63)

-- Eight bytes of a biased value, the highest first.
unfoldable pub key_int_at : List ℕ → Option (Datum × List ℕ)
key_int_at bytes = if nat_lt (length bytes) 8 then None else Some (datums.Int (int_of_biased (from_be_bytes w64 (take 8 bytes))), drop 8 bytes)

-- The bytes up to 0 and 1, each 0 in them being followed by 255, behind those that were read before.
unfoldable pub unescaped_at : List ℕ → List ℕ → Option (List ℕ × List ℕ)
unescaped_at text [] = None
unescaped_at text (b ∷ []) = None
unescaped_at text (b ∷ c ∷ bytes) =
    if b == 0 then (if c == 255 then unescaped_at (text ++ 0 ∷ []) bytes else (if c == 1 then Some (text, bytes) else None))
    else unescaped_at (text ++ b ∷ []) (c ∷ bytes)

abbrev pub as_text : List ℕ × List ℕ → Option (Datum × List ℕ)
as_text x = if is_utf8 x.0 then Some (datums.Text x.0, x.1) else None

-- A value of this type in a key.
unfoldable pub key_part_at : ColumnType → List ℕ → Option (Datum × List ℕ)
key_part_at types.Int bytes = key_int_at bytes
key_part_at types.String bytes = option_and_then as_text (unescaped_at [] bytes)
key_part_at types.Bool bytes = bool_at bytes

-- All of the bytes as values of these types, behind those that were read before.
unfoldable pub key_parts_at : List Datum → List ℕ → List ColumnType → Option (List Datum)
key_parts_at values bytes [] = at_end values bytes
key_parts_at values bytes (ty ∷ tys) = option_and_then (λ x. key_parts_at (values ++ x.0 ∷ []) x.1 tys) (key_part_at ty bytes)

-- The values of a key of the index of this number.
unfoldable pub key_values : Table → ℕ → List ℕ → Option (List Datum)
key_values t number [] = None
key_values t number (b ∷ bytes) = if b == number then key_parts_at [] bytes (index_types t number) else None

-- Whether the bytes are a key of the index of this number.
abbrev pub is_key_of : Table → ℕ → List ℕ → Bool
is_key_of t number key = is_some (key_values t number key)

-- The primary key to which a pair of a secondary index leads: its value, where the key is one of that index
-- and the value is a primary key of the table.
abbrev pub primary_of : Table → ℕ → KeyValue → Option (List ℕ)
primary_of t number p = if is_key_of t number p.0 && is_key_of t 0 p.1 then Some p.1 else None
