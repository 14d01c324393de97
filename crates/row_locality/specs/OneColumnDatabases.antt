use Rattle.std.specs.Prelude.{◌≡◌, ℤ, pos, negsuc, ◌<◌, ◌^◌, ◌<ℤ◌, ◌⊎◌, ⊤, List, [], ◌∷◌, map}
use Rattle.mr_base.specs.declared.rows.Datum.{Datum}
use Rattle.mr_base.specs.declared.rows.Datum.TheVariants as datums
use Rattle.mr_base.specs.declared.spans.Pair.{Pair}
use Rattle.row_locality.specs.OneColumnRows.{int_pair}

-- A plain database of the one table `t (id INT PRIMARY KEY)`: its rows, in the order of their primary keys.
abbrev pub Database : Type 0
Database = List (List Datum)

-- The row with this id.
abbrev pub row_with : ℤ → List Datum
row_with n = datums.Int n ∷ []

-- The id of a row.
abbrev pub id_of : List Datum → ℤ
id_of (datums.Int n ∷ []) = n
id_of row = pos 0

-- Each of these is greater than an id, and each is less than those after it.
abbrev pub AreAbove : ℤ → List ℤ → Type 0
AreAbove n [] = ⊤
AreAbove n (m ∷ ms) = (n <ℤ m) × AreAbove n ms

abbrev pub AreRising : List ℤ → Type 0
AreRising [] = ⊤
AreRising (n ∷ ns) = AreAbove n ns × AreRising ns

-- An INT has 64 bits.
abbrev pub IsInt : ℤ → Type 0
IsInt (pos n) = n < 2 ^ 63
IsInt (negsuc n) = n < 2 ^ 63

abbrev pub AreInts : List ℤ → Type 0
AreInts [] = ⊤
AreInts (n ∷ ns) = IsInt n × AreInts ns

-- One of these is the id.
abbrev pub HasId : ℤ → List ℤ → Type 0
HasId n [] = ⊥
HasId n (m ∷ ms) = (m ≡ n) ⊎ HasId n ms

-- A database is valid: each row has one INT, and no two have the same.
abbrev pub IsValid : Database → Type 0
IsValid d = (ids : List ℤ) × (d ≡ map row_with ids) × AreRising ids × AreInts ids

-- The pairs of key and value in which the range of the table keeps a database: one for each row.
abbrev pub pairs_of : Database → List Pair
pairs_of d = map (λ row. int_pair (id_of row)) d
