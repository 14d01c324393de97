-- Statements at work, from one phase to the next.
use Rattle.std.proofs.Common.{◌≡◌, ℕ, ◌+◌, Bool, true, false, List, [], refl, sym, ap, ◌∙◌, subst}
use Rattle.std.specs.Prelude.{IfOk, IfSome, Some, None, Result, Ok, Err}
use Rattle.std.specs.Option.{option_map_or}
use Rattle.mr_base.specs.declared.memory.Memory.{Memory}
use Rattle.mr_base.specs.declared.spans.Ask.{Ask}
use Rattle.mr_base.specs.declared.states.SqlState.{SqlState}
use Rattle.mr_base.specs.declared.states.SqlState.TheVariants.{S42P01}
use Rattle.region_sql.specs.declared.row_statements.RowStatement.{RowStatement}
use Rattle.row_locality.specs.Plain.{Layout}
use Rattle.sql_eval.specs.Evaluation.{KeyedRow, Outcome}
use Rattle.sql_eval.specs.Execution.{Named, named_table, table_name}
use Rattle.sql_eval.specs.Reads.{Reads, IsPartOf}
use Rattle.sql_eval.specs.Search.{Evaluation, gives, faults, ◌>>=◌}
use Rattle.planner.specs.Phases.{followed_if, found_outcome, is_update, rest_of_scan, rest_of_search, rest_of_statement, rest_of_table, scanned_rows, terms_of, IsPhaseOf, IsSoundPhase, MayFind}
use Rattle.planner.specs.Turns.{AreSame, IsBegun, IsFound, IsNeeded, IsScanStep, IsSearchStep, IsTableTurn, IsTurn}
use Rattle.planner.specs.declared.index_search.SearchStep.TheVariants as searches
use Rattle.planner.specs.declared.phases.Begun.TheVariants as beginnings
use Rattle.planner.specs.declared.phases.Found.TheVariants as found
use Rattle.planner.specs.declared.phases.IndexSearch.{IndexSearch}
use Rattle.planner.specs.declared.phases.Phase.{Phase}
use Rattle.planner.specs.declared.phases.Phase.TheVariants as phases
use Rattle.planner.specs.declared.phases.RowScan.{RowScan}
use Rattle.planner.specs.declared.phases.UniqueCheck.{UniqueCheck}
use Rattle.planner.specs.declared.row_scan.ScanStep.TheVariants as scans
use Rattle.planner.specs.declared.turns.Turn.{Turn}
use Rattle.planner.specs.declared.turns.Turn.TheVariants as turns

known_itself : (known : Reads) → IsPartOf known known
known_itself known ask pairs e = e

needed_if : {A B : Type 0} (b : Bool) (e : Evaluation A) (f : A → Evaluation B) (ask : Ask) → IsNeeded e ask → IsNeeded (followed_if b e >>= f) ask
needed_if true e f ask n = (n.0 + 1, n.1, ap (λ x. followed_if true x >>= f) n.2)
needed_if false e f ask n = (n.0, n.1, ap (λ x. followed_if false x >>= f) n.2)

given_if : {A B : Type 0} (b : Bool) (x : A) (f : A → Evaluation B) → (followed_if b (gives x) >>= f) ≡ f x
given_if true x f = refl
given_if false x f = refl

module _ (l : Layout) (gateway : List ℕ) (n : Named) (known : Reads) (s : RowStatement) where
  rest : Phase → Reads → Evaluation Outcome
  rest phase reads = rest_of_table l gateway reads s phase n

  -- ---- from one phase to another

  turn_from : (phase other : Phase) (turn : Turn) → AreSame known (λ reads. rest_of_table l gateway reads s phase n) (λ reads. rest_of_table l gateway reads s other n)
      → IsTableTurn l gateway n known s other turn → IsTableTurn l gateway n known s phase turn
  turn_from phase other (turns.Asks ask next) same t = (t.0, (λ reads part. same reads part ∙ t.1 reads part), t.2)
  turn_from phase other (turns.Faulty code) same t = same known (known_itself known) ∙ t
  turn_from phase other (turns.Ends x) same t = λ reads part. same reads part ∙ t reads part

  pub turns_from : (phase other : Phase) (r : Result Turn Memory) → AreSame known (λ reads. rest_of_table l gateway reads s phase n) (λ reads. rest_of_table l gateway reads s other n)
      → IfOk r (IsTableTurn l gateway n known s other) → IfOk r (IsTableTurn l gateway n known s phase)
  turns_from phase other (Ok turn) same t = turn_from phase other turn same t
  turns_from phase other (Err m) same t = tt

  -- ---- searches by an index

  found_with : Reads → Evaluation (List KeyedRow) → Evaluation Outcome
  found_with reads e = followed_if (is_update s) e >>= λ old. found_outcome l reads n s old

  pub search_asks : (w v : IndexSearch) (ask : Ask) → MayFind n s → IsSearchStep l.catalog n.table known w (searches.Asks ask v)
      → IsTableTurn l gateway n known s (phases.Searching w) (turns.Asks ask (phases.Searching v))
  unfolding found_with
  search_asks w v ask may t = (
    (may, t.0),
    (λ reads part. ap (found_with reads) (t.1 (terms_of s) reads part)),
    needed_if (is_update s) (rest_of_search known n.table (terms_of s) v) (λ old. found_outcome l known n s old) ask (t.2 (terms_of s)),
  )

  pub search_goes : (w : IndexSearch) (v : RowScan) → IsSearchStep l.catalog n.table known w (searches.Goes v)
      → AreSame known (λ reads. rest_of_table l gateway reads s (phases.Searching w) n) (λ reads. rest_of_table l gateway reads s (phases.Scanning v) n)
  unfolding found_with
  search_goes w v t = λ reads part. ap (found_with reads) (t.1 (terms_of s) reads part)

  -- ---- rows that are read

  pub scan_asks : (w v : RowScan) (ask : Ask) → MayFind n s → IsScanStep l.catalog n.table known w (scans.Asks ask v)
      → IsTableTurn l gateway n known s (phases.Scanning w) (turns.Asks ask (phases.Scanning v))
  unfolding found_with
  scan_asks w v ask may t = (
    (may, t.0),
    (λ reads part. ap (found_with reads) (t.1 (terms_of s) reads part)),
    needed_if (is_update s) (rest_of_scan known n.table (terms_of s) v) (λ old. found_outcome l known n s old) ask (t.2 (terms_of s)),
  )

  -- a statement that has read these rows
  abbrev pub HasRead : RowScan → List KeyedRow → Type 0
  HasRead w rows = AreSame known (λ reads. rest_of_scan reads n.table (terms_of s) w) (λ reads. gives (scanned_rows n.table (terms_of s) rows []))

  read_out : (w : RowScan) (rows : List KeyedRow) (reads : Reads) → IsPartOf known reads → HasRead w rows
      → rest_of_table l gateway reads s (phases.Scanning w) n ≡ found_outcome l reads n s (scanned_rows n.table (terms_of s) rows [])
  unfolding found_with
  read_out w rows reads part h =
      ap (found_with reads) (h reads part) ∙ given_if (is_update s) (scanned_rows n.table (terms_of s) rows []) (λ old. found_outcome l reads n s old)

  pub has_fault : (w : RowScan) (rows : List KeyedRow) (code : SqlState) → HasRead w rows → IsFound l n s (scanned_rows n.table (terms_of s) rows []) (found.Faulty code)
      → rest_of_table l gateway known s (phases.Scanning w) n ≡ faults code
  has_fault w rows code h f = read_out w rows known (known_itself known) h ∙ f known

  is_checked : (w : RowScan) (rows : List KeyedRow) (check : UniqueCheck) → HasRead w rows → IsFound l n s (scanned_rows n.table (terms_of s) rows []) (found.Goes check)
      → AreSame known (λ reads. rest_of_table l gateway reads s (phases.Scanning w) n) (λ reads. rest_of_table l gateway reads s (phases.Checking check) n)
  is_checked w rows check h f = λ reads part. read_out w rows reads part h ∙ f reads

  pub has_read : (w : RowScan) (rows : List KeyedRow) (r : Result Turn Memory) → HasRead w rows
      → IfOk r (λ turn. (v : RowScan) → HasRead v rows → IsTableTurn l gateway n known s (phases.Scanning v) turn)
      → IfOk r (IsTableTurn l gateway n known s (phases.Scanning w))
  has_read w rows (Ok turn) h t = t w h
  has_read w rows (Err m) h t = tt

  pub checked_turns : (rows : List KeyedRow) (check : UniqueCheck) (r : Result Turn Memory) → IsFound l n s (scanned_rows n.table (terms_of s) rows []) (found.Goes check)
      → IfOk r (λ turn. (k : Layout) (g : List ℕ) (m : Named) (z : RowStatement) → IsTableTurn k g m known z (phases.Checking check) turn)
      → IfOk r (λ turn. (v : RowScan) → HasRead v rows → IsTableTurn l gateway n known s (phases.Scanning v) turn)
  checked_turns rows check (Ok turn) f t = λ v h. turn_from (phases.Scanning v) (phases.Checking check) turn (is_checked v rows check h f) (t l gateway n s)
  checked_turns rows check (Err m) f t = tt

  -- ---- beginnings

  pub begun_as : (phase : Phase) → IsBegun l gateway n s (beginnings.Goes phase)
      → AreSame known (λ reads. rest_of_table l gateway reads s phases.Ready n) (λ reads. rest_of_table l gateway reads s phase n)
  begun_as phase b = λ reads part. b.2 reads

  -- ---- the table

  module _ (table : named_table l.catalog (table_name s) ≡ Some n) where
    rest_is : (phase : Phase) (reads : Reads) → rest_of_statement l gateway reads s phase ≡ rest_of_table l gateway reads s phase n
    rest_is phase reads = ap (λ o. option_map_or (rest_of_table l gateway reads s phase) o (faults S42P01)) table

    statement_turn : (phase : Phase) (turn : Turn) → IsTableTurn l gateway n known s phase turn → IsTurn l gateway known s phase turn
    statement_turn phase (turns.Asks ask next) t = (
      subst (λ o. IfSome o (IsSoundPhase l.catalog s next)) (sym table) t.0,
      (λ reads part. rest_is phase reads ∙ t.1 reads part ∙ sym (rest_is next reads)),
      subst (λ e. IsNeeded e ask) (sym (rest_is next known)) t.2,
    )
    statement_turn phase (turns.Faulty code) t = rest_is phase known ∙ t
    statement_turn phase (turns.Ends x) t = λ reads part. rest_is phase reads ∙ t reads part

    pub statement_turns : (phase : Phase) (r : Result Turn Memory) → IfOk r (IsTableTurn l gateway n known s phase) → IfOk r (IsTurn l gateway known s phase)
    statement_turns phase (Ok turn) t = statement_turn phase turn t
    statement_turns phase (Err m) t = tt

    pub phase_there : (phase : Phase) → IsPhaseOf l.catalog s phase → IsSoundPhase l.catalog s phase n
    phase_there phase h = subst (λ o. IfSome o (IsSoundPhase l.catalog s phase)) table h

pub no_table : (l : Layout) (gateway : List ℕ) (known : Reads) (s : RowStatement) (phase : Phase) → named_table l.catalog (table_name s) ≡ None
    → rest_of_statement l gateway known s phase ≡ faults S42P01
no_table l gateway known s phase e = ap (λ o. option_map_or (rest_of_table l gateway known s phase) o (faults S42P01)) e
