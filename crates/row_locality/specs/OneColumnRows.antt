use Rattle.std.specs.Prelude.{ℕ, ℤ, pos, negsuc, ◌+◌, ◌-◌, ◌^◌, List, [], ◌∷◌, ◌++◌}
use Rattle.std.specs.Int.{w64, to_be_bytes, cast_unsigned}
use Rattle.mr_base.specs.declared.spans.Pair.{Pair}
use Rattle.mr_base.specs.declared.spans.Span.{Span}

-- An INT plus 2^63, which orders as the INT does.
abbrev pub int_place : ℤ → ℕ
int_place (pos n) = 2 ^ 63 + n
int_place (negsuc n) = 2 ^ 63 - 1 - n

-- The primary key of a row whose key is one INT: a zero byte, then the INT plus 2^63 in eight bytes, the
-- highest first. (This project's profile.)
unfoldable pub int_key : ℤ → List ℕ
int_key n = 0 ∷ to_be_bytes w64 (int_place n)

-- The value of a row that holds one INT: the byte 1, then the INT as two's complement in eight bytes,
-- the highest first.
unfoldable pub int_value : ℤ → List ℕ
int_value n = 1 ∷ to_be_bytes w64 (cast_unsigned w64 n)

abbrev pub int_pair : ℤ → Pair
int_pair n = record { key = int_key n; value = int_value n }

-- The span of one key is from the key up to the key followed by a zero byte.
abbrev pub point_of : ℤ → Span
point_of n = record { lo = int_key n; hi = int_key n ++ 0 ∷ [] }

-- The span of all primary keys.
abbrev pub the_primary_keys : Span
the_primary_keys = record { lo = 0 ∷ []; hi = 1 ∷ [] }
