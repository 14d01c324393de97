use Rattle.std.specs.Prelude.{◌≡◌, ℕ, List, ◌++◌, codes}
use Rattle.region_sql.specs.IntText.{IsIntText}
use Rattle.region_sql.specs.declared.one_column_forms.OneColumnStatement.{OneColumnStatement}
use Rattle.region_sql.specs.declared.one_column_forms.OneColumnStatement.TheVariants.{Insert, SelectAll}

-- A text is one of the two statements on the one table, written exactly so. (This project's profile.)
abbrev pub IsOneColumnText : List ℕ → OneColumnStatement → Type 0
IsOneColumnText text SelectAll = text ≡ codes "SELECT * FROM t"
IsOneColumnText text (Insert n) = (digits : List ℕ) × (text ≡ codes "INSERT INTO t (id) VALUES (" ++ (digits ++ codes ")")) × IsIntText digits n

-- A list that the cluster of one table takes.
abbrev pub IsTaken : List ℕ → Type 0
IsTaken list = (s : OneColumnStatement) × IsOneColumnText list s
