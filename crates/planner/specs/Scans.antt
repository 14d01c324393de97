-- How far the reading of rows goes, over what is known. (This project's profile.)
use Rattle.std.specs.Prelude.{ℕ, ◌<◌, false, List, drop, flat_map, length, Option, Some, None, IfSome, Contains}
use Rattle.mr_base.specs.declared.spans.Ask.{Ask}
use Rattle.descriptors.specs.Contents.{Contents}
use Rattle.descriptors.specs.declared.table.Table.{Table}
use Rattle.row_locality.specs.Pairs.{put_all}
use Rattle.row_locality.specs.Plain.{regions_of}
use Rattle.sql_eval.specs.Evaluation.{KeyedRow, rows_in}
use Rattle.sql_eval.specs.Reads.{Reads}
use Rattle.sql_eval.specs.Search.{Evaluation, gives, ◌>>=◌, Lookup, search}
use Rattle.planner.specs.Turns.{AreSame, IsNeeded}

-- A region of the table's database, where the table is REGIONAL BY ROW.
abbrev pub LivesIn : Contents → Table → Option (List ℕ) → Type 0
LivesIn c t region = IfSome region (Contains (regions_of c t))

-- The rows of look-ups, put to others.
abbrev pub scans : Table → List Lookup → List KeyedRow → Reads → Evaluation (List KeyedRow)
scans t lookups rows reads =
    search reads (λ a. false) lookups >>= λ answers.
    gives (put_all (flat_map (rows_in t) answers) rows)

-- Rows are read to the end, or behind so many look-ups a span is needed.
abbrev pub IsScanned : Table → Reads → List Lookup → (old new : List KeyedRow) → Option (ℕ × Ask) → Type 0
IsScanned t known lookups old new None = AreSame known (scans t lookups old) (λ reads. gives new)
IsScanned t known lookups old new (Some x) =
    (x.0 < length lookups)
    × AreSame known (scans t lookups old) (scans t (drop x.0 lookups) new)
    × IsNeeded (scans t (drop x.0 lookups) new known) x.1
