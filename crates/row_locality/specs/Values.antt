-- The values of a table's rows. Source: this project's profile.
use Rattle.std.specs.Prelude.{ℕ, ◌<◌, ◌^◌, ⊤, Bool, nat_le, List, [], ◌∷◌, ◌++◌, length, take, flat_map}
use Rattle.std.specs.Int.{w32, w64, to_be_bytes, cast_unsigned, from_bool}
use Rattle.mr_base.specs.declared.rows.Datum.{Datum}
use Rattle.mr_base.specs.declared.rows.Datum.TheVariants as datums
use Rattle.descriptors.specs.declared.table.Table.{Table}

-- A column in a row's value. INT: the byte 1, then two's complement in eight bytes, the highest first.
-- STRING: the byte 2, the length in four bytes, then its bytes. BOOL: the byte 3, then 0 or 1.
unfoldable pub value_part : Datum → List ℕ
value_part (datums.Int n) = 1 ∷ to_be_bytes w64 (cast_unsigned w64 n)
value_part (datums.Text s) = 2 ∷ to_be_bytes w32 (length s) ++ s
value_part (datums.Bool b) = 3 ∷ from_bool b ∷ []

-- The value of a row: its columns in declared order. The region is that of the range.
abbrev pub value_of : Table → List Datum → List ℕ
value_of t row = flat_map value_part (take (length t.columns) row)

-- The value of a row that may be written has at most 1,024 bytes.
abbrev pub is_small : Table → List Datum → Bool
is_small t row = nat_le (length (value_of t row)) 1024

-- The length of a text fits into the four bytes for it.
abbrev pub HasLength : Datum → Type 0
HasLength (datums.Int n) = ⊤
HasLength (datums.Text s) = length s < 2 ^ 32
HasLength (datums.Bool b) = ⊤
