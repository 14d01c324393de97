-- The parts that lines of a report share. (Source: this project's profile.)
use Rattle.std.specs.Prelude.{ℕ, zero, suc, ◌^◌, List, [], ◌∷◌, ◌++◌, ◌==◌, if◌then◌else◌, Option, Some, None, bit_and, codes, slice_get, unwrap_or, decimal}
use Rattle.std.specs.Fmt.{signed_decimal}
use Rattle.std.specs.List.{flat_map}
use Rattle.mr_base.specs.Ids.{node_text}
use Rattle.mr_base.specs.declared.ids.NodeId.{NodeId}
use Rattle.mr_base.specs.declared.ids.TxnId.{TxnId}
use Rattle.mr_base.specs.declared.nodes.NodeSet.{NodeSet}
use Rattle.mr_base.specs.declared.rows.Datum.{Datum}
use Rattle.mr_base.specs.declared.rows.Datum.TheVariants as datum
use Rattle.mr_base.specs.declared.timestamps.Reading.{Reading}

abbrev pub line_end : List ℕ
line_end = 10 ∷ []

-- The texts of the items, with `between` between each two.
abbrev pub joined : {A : Type 0} → (A → List ℕ) → List ℕ → List A → List ℕ
joined f between [] = []
joined f between (x ∷ xs) = f x ++ flat_map (λ y. between ++ f y) xs

-- A single quote within a text is written twice. (PostgreSQL's string constants.)
abbrev pub quoted_byte : ℕ → List ℕ
quoted_byte b = if b == 39 then codes "''" else b ∷ []

abbrev pub quoted : List ℕ → List ℕ
quoted bytes = codes "'" ++ flat_map quoted_byte bytes ++ codes "'"

-- A value of a column.
abbrev pub datum_text : Datum → List ℕ
datum_text (datum.Int n) = signed_decimal n
datum_text (datum.Text bytes) = quoted bytes
datum_text (datum.Bool b) = if b then codes "true" else codes "false"

abbrev pub number_or_dash : Option ℕ → List ℕ
number_or_dash None = codes "-"
number_or_dash (Some n) = decimal n

-- A reading of a clock.
abbrev pub reading_text : Reading → List ℕ
reading_text r = decimal r.wall ++ codes "." ++ decimal r.logical

-- The nodes of a set from 1 to k, in number order: node k is bit k - 1.
unfoldable pub members_to : ℕ → NodeSet → List NodeId
members_to zero s = []
members_to (suc k) s = members_to k s ++ (if bit_and s.0 (2 ^ k) == 0 then [] else record { 0 = suc k } ∷ [])

unfoldable pub members : NodeSet → List NodeId
members s = members_to 64 s

-- The nodes of a set, in number order, with commas between them.
abbrev pub nodes_text : NodeSet → List ℕ
nodes_text s = joined node_text (codes ",") (members s)

-- The nodes that are missing for a quorum.
abbrev pub no_quorum_text : NodeSet → List ℕ
no_quorum_text down = codes "noquorum " ++ nodes_text down
