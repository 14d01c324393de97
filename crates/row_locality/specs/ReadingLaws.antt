-- Laws on reading rows from pairs.
use Rattle.std.specs.Prelude.{◌≡◌, ℕ, ◌<◌, IsTrue, List, All, Option, Some}
use Rattle.mr_base.specs.declared.rows.Datum.{Datum}
use Rattle.descriptors.specs.declared.table.Table.{Table}
use Rattle.row_locality.specs.Rows.{Fits, region_of}
use Rattle.row_locality.specs.Values.{is_small}
use Rattle.row_locality.specs.Pairs.{KeyValue, IsPairOf, row_pair}
use Rattle.row_locality.specs.Reading.{row_of}
use Rattle.row_locality.specs.Decoding.{IsRegionFor}

-- The pair of a row is read as that row.
abbrev pub WhatIsSpelledIsRead : Type 0
WhatIsSpelledIsRead = (t : Table) (region : Option (List ℕ)) (row : List Datum) (p : KeyValue) → IsPairOf t region row p → row_of t region p ≡ Some row

-- A row that may be written is read from its pair.
abbrev pub WhatIsWrittenIsRead : Type 0
WhatIsWrittenIsRead = (t : Table) (row : List Datum) → Fits t row → IsTrue (is_small t row) → row_of t (region_of t row) (row_pair t row) ≡ Some row

-- A row that is read from a pair has that pair.
abbrev pub WhatIsReadIsSpelled : Type 0
WhatIsReadIsSpelled = (t : Table) (region : Option (List ℕ)) (row : List Datum) (p : KeyValue) → IsRegionFor t region → All (λ b. b < 256) p.1
    → row_of t region p ≡ Some row → IsPairOf t region row p
