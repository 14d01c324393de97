-- What steps of a plan answer, against the evaluations that are left. (This project's profile.)
use Rattle.std.specs.Prelude.{◌≡◌, ℕ, List, []}
use Rattle.mr_base.specs.declared.spans.Ask.{Ask}
use Rattle.region_sql.specs.declared.row_statements.RowStatement.{RowStatement}
use Rattle.region_sql.specs.declared.row_statements.Term.{Term}
use Rattle.descriptors.specs.declared.table.Table.{Table}
use Rattle.descriptors.specs.Contents.{Contents}
use Rattle.row_locality.specs.Plain.{Layout}
use Rattle.sql_eval.specs.Evaluation.{KeyedRow, checked_outcome, found_rows, partitions_of}
use Rattle.sql_eval.specs.Execution.{Named}
use Rattle.sql_eval.specs.Reads.{Reads, IsPartOf}
use Rattle.sql_eval.specs.Search.{Evaluation, gives, faults, needs}
use Rattle.planner.specs.Phases.{rest_of_search, rest_of_scan, rest_of_check, rest_of_table, rest_of_statement, scanned_rows, found_outcome, IsSoundSearch, IsSoundScan, IsSoundPhase, IsPhaseOf, IsAtWork, AreKeyedRowsOf}
use Rattle.planner.specs.declared.phases.IndexSearch.{IndexSearch}
use Rattle.planner.specs.declared.phases.RowScan.{RowScan}
use Rattle.planner.specs.declared.phases.UniqueCheck.{UniqueCheck}
use Rattle.planner.specs.declared.phases.Phase.{Phase}
use Rattle.planner.specs.declared.phases.Phase.TheVariants as phases
use Rattle.planner.specs.declared.phases.Begun.{Begun}
use Rattle.planner.specs.declared.phases.Begun.TheVariants as beginnings
use Rattle.planner.specs.declared.phases.Found.{Found}
use Rattle.planner.specs.declared.phases.Found.TheVariants as found
use Rattle.planner.specs.declared.index_search.SearchStep.{SearchStep}
use Rattle.planner.specs.declared.index_search.SearchStep.TheVariants as searches
use Rattle.planner.specs.declared.row_scan.ScanStep.{ScanStep}
use Rattle.planner.specs.declared.row_scan.ScanStep.TheVariants as scans
use Rattle.planner.specs.declared.unique_check.CheckStep.{CheckStep}
use Rattle.planner.specs.declared.unique_check.CheckStep.TheVariants as checks
use Rattle.planner.specs.declared.turns.Turn.{Turn}
use Rattle.planner.specs.declared.turns.Turn.TheVariants as turns

-- Two evaluations come to the same over all that holds what is known.
abbrev pub AreSame : {A : Type 0} → Reads → (Reads → Evaluation A) → (Reads → Evaluation A) → Type 0
AreSame known e f = (reads : Reads) → IsPartOf known reads → e reads ≡ f reads

-- An evaluation needs this span next.
abbrev pub IsNeeded : {A : Type 0} → Evaluation A → Ask → Type 0
IsNeeded e ask = (phases : ℕ) × (asks : ℕ) × (e ≡ needs ask phases asks)

-- ---- phases

-- A search by an index goes on to its next span, or to the rows themselves.
abbrev pub IsSearchStep : Contents → Table → Reads → IndexSearch → SearchStep → Type 0
IsSearchStep c t known w (searches.Asks ask v) =
    IsSoundSearch c t v
    × ((terms : List Term)
    → AreSame known (λ reads. rest_of_search reads t terms w) (λ reads. rest_of_search reads t terms v))
    × ((terms : List Term) → IsNeeded (rest_of_search known t terms v) ask)
IsSearchStep c t known w (searches.Goes v) =
    IsSoundScan c t v
    × ((terms : List Term)
    → AreSame known (λ reads. rest_of_search reads t terms w) (λ reads. rest_of_scan reads t terms v))

-- Reading rows goes on to its next span, or has read them all.
abbrev pub IsScanStep : Contents → Table → Reads → RowScan → ScanStep → Type 0
IsScanStep c t known w (scans.Asks ask v) =
    IsSoundScan c t v
    × ((terms : List Term)
    → AreSame known (λ reads. rest_of_scan reads t terms w) (λ reads. rest_of_scan reads t terms v))
    × ((terms : List Term) → IsNeeded (rest_of_scan known t terms v) ask)
IsScanStep c t known w (scans.Ends rows) =
    AreKeyedRowsOf c t rows
    × ((terms : List Term)
    → AreSame known (λ reads. rest_of_scan reads t terms w) (λ reads. gives (scanned_rows t terms rows [])))

-- A check goes on to its next span, or ends with a fault or with what the statement comes to.
abbrev pub IsCheckStep : Reads → UniqueCheck → CheckStep → Type 0
IsCheckStep known w (checks.Asks ask v) =
    AreSame known (λ reads. rest_of_check reads w) (λ reads. rest_of_check reads v)
    × IsNeeded (rest_of_check known v) ask
IsCheckStep known w (checks.Faulty code) = rest_of_check known w ≡ faults code
IsCheckStep known w (checks.Ends x) = AreSame known (λ reads. rest_of_check reads w) (λ reads. gives x)

-- ---- statements

-- The first phase of a statement that finds rows by these terms.
abbrev pub IsFirstPhase : Layout → List ℕ → Named → List Term → Phase → Type 0
IsFirstPhase l gateway n terms phases.Ready = ⊥
IsFirstPhase l gateway n terms (phases.Searching w) =
    IsSoundSearch l.catalog n.table w
    × ((reads : Reads)
    → found_rows reads n.table gateway (partitions_of l n) terms ≡ rest_of_search reads n.table terms w)
IsFirstPhase l gateway n terms (phases.Scanning w) =
    IsSoundScan l.catalog n.table w
    × ((reads : Reads)
    → found_rows reads n.table gateway (partitions_of l n) terms ≡ rest_of_scan reads n.table terms w)
IsFirstPhase l gateway n terms (phases.Checking check) = ⊥

-- A statement without a fault of its own goes on to its first phase, or has a fault.
abbrev pub IsBegun : Layout → List ℕ → Named → RowStatement → Begun → Type 0
IsBegun l gateway n s (beginnings.Goes phase) =
    IsAtWork phase
    × IsSoundPhase l.catalog s phase n
    × ((reads : Reads) → checked_outcome l gateway reads s n ≡ rest_of_table l gateway reads s phase n)
IsBegun l gateway n s (beginnings.Faulty code) = (reads : Reads) → checked_outcome l gateway reads s n ≡ faults code

-- With the rows that it found a statement goes on to the check of its new rows, or has a fault.
abbrev pub IsFound : Layout → Named → RowStatement → List KeyedRow → Found → Type 0
IsFound l n s old (found.Goes check) = (reads : Reads) → found_outcome l reads n s old ≡ rest_of_check reads check
IsFound l n s old (found.Faulty code) = (reads : Reads) → found_outcome l reads n s old ≡ faults code

-- A statement on this table needs a span and goes on behind it, or ends with a fault or with what it comes to.
abbrev pub IsTableTurn : Layout → List ℕ → Named → Reads → RowStatement → Phase → Turn → Type 0
IsTableTurn l gateway n known s phase (turns.Asks ask next) =
    IsSoundPhase l.catalog s next n
    × AreSame known
    (λ reads. rest_of_table l gateway reads s phase n) (λ reads. rest_of_table l gateway reads s next n)
    × IsNeeded (rest_of_table l gateway known s next n) ask
IsTableTurn l gateway n known s phase (turns.Faulty code) = rest_of_table l gateway known s phase n ≡ faults code
IsTableTurn l gateway n known s phase (turns.Ends x) =
    AreSame known (λ reads. rest_of_table l gateway reads s phase n) (λ reads. gives x)

-- A statement needs a span and goes on behind it, or ends with a fault or with what it comes to.
abbrev pub IsTurn : Layout → List ℕ → Reads → RowStatement → Phase → Turn → Type 0
IsTurn l gateway known s phase (turns.Asks ask next) =
    IsPhaseOf l.catalog s next
    × AreSame known
    (λ reads. rest_of_statement l gateway reads s phase) (λ reads. rest_of_statement l gateway reads s next)
    × IsNeeded (rest_of_statement l gateway known s next) ask
IsTurn l gateway known s phase (turns.Faulty code) = rest_of_statement l gateway known s phase ≡ faults code
IsTurn l gateway known s phase (turns.Ends x) =
    AreSame known (λ reads. rest_of_statement l gateway reads s phase) (λ reads. gives x)
