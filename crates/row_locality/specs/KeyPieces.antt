-- Reading the keys of indexes piece by piece, for what follows.
use Rattle.std.specs.Prelude.{ℕ, ◌==◌, if◌then◌else◌, List, [], ◌∷◌, Option, Some, None, option_and_then, option_map}
use Rattle.mr_base.specs.declared.rows.Datum.{Datum}
use Rattle.region_sql.specs.declared.region_statements.ColumnType.{ColumnType}
use Rattle.row_locality.specs.Reading.{key_part_at}

-- A byte of an escaped text, or nothing at the text's end, and what follows.
unfoldable pub piece_at : List ℕ → Option (Option ℕ × List ℕ)
piece_at [] = None
piece_at (b ∷ []) = None
piece_at (b ∷ c ∷ bytes) = if b == 0 then (if c == 255 then Some (Some 0, bytes) else (if c == 1 then Some (None, bytes) else None)) else Some (Some b, c ∷ bytes)

-- What follows a value in a key.
abbrev pub rest_of : Option (Datum × List ℕ) → Option (List ℕ)
rest_of = option_map (λ x. x.1)

-- What follows values of these types.
unfoldable pub rest_of_parts : List ℕ → List ColumnType → Option (List ℕ)
rest_of_parts bytes [] = Some bytes
rest_of_parts bytes (ty ∷ tys) = option_and_then (λ rest. rest_of_parts rest tys) (rest_of (key_part_at ty bytes))
